use Rattle.std.proofs.lemmas.List.{append_assoc}
use Rattle.words.proofs.Room.{cut_then}
use Rattle.dump.specs.Dump.{spelling_lines}
use Rattle.dump.proofs.put_spelling.Goals as goal

pub returns : goal.returns
unfolding spelling_lines
returns c =
    rw (c.put-5.ensures, c.put-4.ensures, c.put-3.ensures, c.put-2.ensures, c.put.ensures, c.reason.ensures, c.yes_no.ensures) (simp (cut_then, append_assoc))
