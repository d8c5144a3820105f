-- The cast of the flag is its octet.
use mathlib.Core.Path.{refl}
use Rattle.flat.proofs.Parts.{flag_byte}
use Rattle.flat.proofs.laid.bare.Goals as goal

pub returns : goal.returns
returns c = rw flag_byte refl
