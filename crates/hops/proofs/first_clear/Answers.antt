-- The trailing zeros of a complement are the trailing ones of the set: a fact of the 256 sets.
use Prim.Native.Nat.{◌-◌}
use native.Mathlib.Omega.{arith}
use lib.Count.{count_trailing_zeros}
use Rattle.octets.specs.First.{first}
use Rattle.octets.proofs.Octet.{octet-same}
use Rattle.hops.specs.Hops.{first_clear}
use Rattle.hops.proofs.first_clear.Goals as goal

pub returns : goal.returns
unfolding first_clear first count_trailing_zeros
returns c = octet-same (λ n. count_trailing_zeros 8 (255 - n)) first_clear tt c.args.set (omega arith)
