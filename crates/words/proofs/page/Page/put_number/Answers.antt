use Rattle.std.proofs.lemmas.List.{append_assoc}
use Rattle.words.proofs.Room.{cut_then}
use Rattle.words.proofs.page.Page.put_number.Goals as goal

pub returns : goal.returns
returns g c = rw (c.put-2.ensures, c.put_decimal.ensures, c.put.ensures) (simp (cut_then, append_assoc))
