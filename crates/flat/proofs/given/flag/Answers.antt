-- By the octet.
use mathlib.Core.Path.{refl}
use Rattle.flat.proofs.given.flag.Goals as goal

pub returns : goal.returns
returns c = rw c.octet.ensures refl
