use Rattle.std.proofs.lemmas.List.{append_assoc}
use Rattle.words.proofs.Room.{cut_then}
use Rattle.dump.specs.Dump.{frame_text}
use Rattle.dump.proofs.put_frame.Goals as goal

pub returns : goal.returns
unfolding frame_text
returns c =
    rw (c.put_spelling.ensures, c.put_number-2.ensures, c.put_content.ensures, c.put_stations.ensures, c.put_number.ensures) (simp (cut_then, append_assoc))
