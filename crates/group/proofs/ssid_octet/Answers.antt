-- `ssid_octet` joins fields that do not overlap, so that each joint is a sum.
use Prim.Native.Nat.{ℕ, ◌+◌, ◌*◌, ◌%◌, ◌<◌}
use native.Mathlib.Omega.{arith}
use mathlib.Core.Path.{◌≡◌, refl, ◌∙◌}
use mathlib.Core.Bool.{Bool, true, false, cond}
use mir.Val.{bool_byte}
use lib.Bits.{bit_and, bit_or, and_mask, or_shifted, or_shifted_r, or_zero_r}
use Rattle.octets.specs.Octet.{flag}
use Rattle.group.specs.Group.{ssid_octet}
use Rattle.group.proofs.ssid_octet.Goals as goal

-- a field joined to what stands below it, from the SSID up, and the end bit last
fields : (s r : ℕ) → s < 16 → r < 4 → bit_or (s * 2 % 256) (r * 32 % 256) ≡ (r * 16 + s) * 2
fields s r h k =
    let a : s * 2 % 256 ≡ s * 2 = omega arith in
    let b : r * 32 % 256 ≡ r * 32 = omega arith in
    rw (a, b) (or_shifted_r r 5 (s * 2) (omega arith) ∙ omega arith)

marked : (m : Bool) (n : ℕ) → n < 64 → bit_or (n * 2) (bool_byte m * 128 % 256) ≡ (cond m 64 0 + n) * 2
marked true n h = or_shifted_r 1 7 (n * 2) (omega arith) ∙ omega arith
marked false n h = or_zero_r (n * 2) ∙ omega arith

ended : (e : Bool) (n : ℕ) → bit_or (n * 2) (bool_byte e) ≡ n * 2 + cond e 1 0
ended true n = or_shifted n 1 1 (omega arith)
ended false n = or_zero_r (n * 2) ∙ omega arith

-- the mark's bit, half of it doubled
doubled : (m : Bool) → flag 7 m ≡ cond m 64 0 * 2
doubled true = refl
doubled false = refl

ssid-bits : (m e : Bool) (s r : ℕ)
    → bit_or (bit_or (bit_or (bit_and s 15 * 2 % 256) (bit_and r 3 * 32 % 256)) (bool_byte m * 128 % 256)) (bool_byte e) ≡ ssid_octet s r m e
unfolding ssid_octet
ssid-bits m e s r =
    rw (and_mask s 4, and_mask r 2, fields (s % 16) (r % 4) (omega arith) (omega arith), marked m (r % 4 * 16 + s % 16) (omega arith), ended e _)
    (omega (arith, doubled m))

pub returns : goal.returns
returns c =
    let a = c.args in
    rw (c.from.ensures, c.from-2.ensures) (ssid-bits a.high_bit a.final_in_address a.ssid a.reserved)
