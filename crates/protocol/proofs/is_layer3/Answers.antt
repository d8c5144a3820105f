-- The code's mask and the field of the definition are the same two bits.
use Prim.Native.Nat.{ℕ, ◌*◌}
use mathlib.Core.Path.{◌≡◌, sym, ◌∙◌}
use native.Mathlib.Omega.{arith}
use borrow.Author.Tests.{eqb-true, eq-eqb, ne_eqb}
use lib.Dec.{eqb}
use lib.Bits.{bit_and, and_high}
use Rattle.octets.specs.Octet.{field}
use Rattle.octets.proofs.Choice.{equal}
use Rattle.protocol.proofs.is_layer3.Goals as goal

class : (b : ℕ) → bit_and b 0x30 ≡ field 4 2 b * 16
class b = and_high b 2 4

-- a test of the one is a test of the other
same : (b n : ℕ) → eqb (bit_and b 0x30) (n * 16) ≡ eqb (field 4 2 b) n
same b n =
    equal _ _ (λ t. eq-eqb (field 4 2 b) n (omega (arith, class b, eqb-true (bit_and b 0x30) (n * 16) t)))
    (λ t. eq-eqb (bit_and b 0x30) (n * 16) (omega (arith, class b, eqb-true (field 4 2 b) n t)))

pub returns-then-class-eq16 : goal.returns-then-class-eq16
returns-then-class-eq16 c =
    let b : ℕ = c.args.byte in
    simp (same b 1, sym (same b 1) ∙ eq-eqb (bit_and b 0x30) 0x10 c.if-class-eq16.true)

pub returns-else-class-eq16 : goal.returns-else-class-eq16
returns-else-class-eq16 c =
    let b : ℕ = c.args.byte in
    simp (same b 2, sym (same b 1) ∙ ne_eqb (bit_and b 0x30) 0x10 c.if-class-eq16.false)
