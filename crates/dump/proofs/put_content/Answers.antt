use Rattle.std.proofs.Common.{refl}
use Rattle.std.proofs.lemmas.List.{append_assoc}
use Rattle.words.proofs.Room.{cut_then}
use Rattle.words.specs.Ascii.{ascii}
use Rattle.words.specs.Words.{kind_text}
use Rattle.dump.specs.Dump.{content_lines}
use Rattle.dump.proofs.put_content.Goals as goal

pub returns : goal.returns
unfolding content_lines
returns c =
    rw (c.put-6.ensures, c.put_pid.ensures, c.put-5.ensures, c.put-4.ensures, c.put-3.ensures, c.put-2.ensures, c.put.ensures, c.control.ensures, c.kind.ensures) (simp (cut_then, append_assoc) (rw (append_assoc (kind_text c.args.content) (ascii "\n")) refl))
