-- A part that fits, put at the start of a buffer.
use Prim.Native.Nat.{ℕ, ◌+◌, ◌≤◌}
use mathlib.Core.Path.{◌≡◌, refl, ◌∙◌}
use mathlib.Core.List.{List}
use native.Mathlib.Omega.{arith}
use lib.ListN.{length}
use Rattle.octets.specs.Splice.{splice}
use Rattle.octets.proofs.Splice.{splice_in}
use Rattle.octets.specs.Lent.{starting}

pub splice_start : (out t : List ℕ) → length t ≤ length out → splice out 0 t ≡ starting t out
splice_start out t h =
    let z : 0 + length t ≡ length t = omega arith in
    splice_in out 0 t (omega arith) ∙ rw z refl
