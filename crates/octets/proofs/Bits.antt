-- From the code's masks and shifts to the numbers of the definitions.
use Prim.Native.Nat.{ℕ, zero, suc, ◌+◌, ◌-◌, ◌*◌, ◌/◌, ◌%◌, ◌^◌, ◌<◌}
use mathlib.Core.Path.{◌≡◌, refl, ap, ◌∙◌}
use mathlib.Core.Bool.{Bool, true, false, not}
use native.Mathlib.Nat.{zero-mul, one-mul, two-pow-succ, mod-lt}
use native.Mathlib.Numerals.{one-add}
use native.Mathlib.Omega.{arith}
use borrow.Author.Tests.{ne_eqb}
use lib.Dec.{eqb}
use lib.Bits.{bit_and, and_high, and_mask}
use lib.Pow.{pow_pos, shl-shr}
use Rattle.octets.specs.Octet.{field, bit, flag}

-- `(b & mask) >> low`, the mask a run of `width` ones from bit `low` on: `field_mask b 5 3 : bit_and b 0xE0 / 32 ≡ field 5 3 b`
pub field_mask : (b low width : ℕ) → bit_and b (2 ^ (width + low) - 2 ^ low) / 2 ^ low ≡ field low width b
field_mask b low width = rw (and_high b width low) (shl-shr (field low width b) low)

-- `b & mask`, the mask the low `width` bits
pub low_mask : (b width : ℕ) → bit_and b (2 ^ width - 1) ≡ field 0 width b
low_mask b width =
    let whole : b ≡ b / 2 ^ 0 = omega arith in
    and_mask b width ∙ ap (λ (n : ℕ). n % 2 ^ width) whole

-- `b & mask`, the mask one bit: the bit alone
pub bit_mask : (b k : ℕ) → bit_and b (2 ^ k) ≡ flag k (bit k b)
bit_mask b k =
    let one : 2 ^ (1 + k) - 2 ^ k ≡ 2 ^ k = rw (one-add, two-pow-succ) (omega arith) in
    let m : bit_and b (2 ^ k) ≡ field k 1 b * 2 ^ k = rw one at (and_high b 1 k) in
    m ∙ digit (field k 1 b) (mod-lt (b / 2 ^ k) (omega arith))
  where
    digit : (x : ℕ) → x < 2 → x * 2 ^ k ≡ flag k (eqb x 1)
    digit zero h = zero-mul _
    digit (suc zero) h = one-mul _
    digit (suc (suc x)) h = absurd (omega arith)

-- `b & mask != 0`
pub bit_test : (b k : ℕ) → not (eqb (bit_and b (2 ^ k)) 0) ≡ bit k b
bit_test b k = rw bit_mask (set? (bit k b))
  where
    set? : (t : Bool) → not (eqb (flag k t) 0) ≡ t
    set? true = ap not (ne_eqb (2 ^ k) 0 (λ e. omega (arith, pow_pos k)))
    set? false = refl
