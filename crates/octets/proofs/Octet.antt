-- A fact of every octet, by one test that is computed at each of the 256.
use Prim.Native.Nat.{ℕ, zero, suc, ◌<◌, ◌≤◌, ◌+◌, ◌*◌, ◌/◌}
use mathlib.Core.Path.{◌≡◌, subst, sym, ◌∙◌}
use mathlib.Core.Bool.{Bool, true, false, false≢true, not, ◌&&◌, ◌||◌}
use mathlib.Core.List.{List, [], ◌∷◌}
use mathlib.Core.Logic.{⊎_elim}
use native.Mathlib.Omega.{arith}
use native.Mathlib.Nat.{eq-or-lt_of_le, le_of_suc-le-suc, not-suc-le-zero}
use lib.Dec.{T, eqb, eqb→eq}
use lib.ListN.{length, get_or, drop, take}
use lib.Seq.{get_or-drop, ext_get_or}
use Rattle.octets.specs.Octet.{Octets, bit, flag}
use Rattle.octets.proofs.Choice.{so}

-- the test passes at every number below n
abbrev every : (ℕ → Bool) → ℕ → Bool
every f zero = true
every f (suc n) = f n && every f n

left : (a b : Bool) → T (a && b) → T a
left true b t = tt
left false b t = t

right : (a b : Bool) → T (a && b) → T b
right true b t = t
right false b t = absurd t

below : (f : ℕ → Bool) (n : ℕ) → T (every f n) → (k : ℕ) → k < n → T (f k)
below f zero t k h = absurd (not-suc-le-zero h)
below f (suc n) t k h =
    ⊎_elim
    (λ e. subst (λ (m : ℕ). T (f m)) (sym e) (left (f n) (every f n) t))
    (λ l. below f n (right (f n) (every f n) t) k l)
    (eq-or-lt_of_le (le_of_suc-le-suc h))

-- a test that passes at each of the 256: `octet-test f tt b h`
pub octet-test : (f : ℕ → Bool) → T (every f 256) → (b : ℕ) → b < 256 → T (f b)
octet-test f t b h = below f 256 t b h

-- two functions agree at every octet: `octet-same f g tt b h`
pub octet-same : (f g : ℕ → ℕ) → T (every (λ n. eqb (f n) (g n)) 256) → (b : ℕ) → b < 256 → f b ≡ g b
octet-same f g t b h = eqb→eq (f b) (g b) (octet-test (λ n. eqb (f n) (g n)) t b h)

-- wherever the one test passes, the other does
pub octet_where : (f g : ℕ → Bool) → T (every (λ n. not (f n) || g n) 256) → (b : ℕ) → b < 256 → f b ≡ true → g b ≡ true
octet_where f g t b h e = follows (f b) (g b) (octet-test (λ n. not (f n) || g n) t b h) e
  where
    follows : (x y : Bool) → T (not x || y) → x ≡ true → y ≡ true
    follows true y t e = so y t
    follows false y t e = absurd (false≢true e)

-- an octet by its bits: two with the same bits from 1 on are the same but for bit 0, and with that they are the same
abbrev upper : ℕ → ℕ
upper b =
    flag 7 (bit 7 b) + flag 6 (bit 6 b) + flag 5 (bit 5 b) + flag 4 (bit 4 b) + flag 3 (bit 3 b) + flag 2 (bit 2 b) + flag 1 (bit 1 b)

module _ (a b : ℕ) (h : a < 256) (l : b < 256) where
  pub upper_bits : ((j : ℕ) → 1 ≤ j → j < 8 → bit j a ≡ bit j b) → a / 2 * 2 ≡ b / 2 * 2
  upper_bits f =
      octet-same (λ n. n / 2 * 2) upper tt a h
      ∙ rw (
        f 7 (omega arith) (omega arith),
        f 6 (omega arith) (omega arith),
        f 5 (omega arith) (omega arith),
        f 4 (omega arith) (omega arith),
        f 3 (omega arith) (omega arith),
        f 2 (omega arith) (omega arith),
        f 1 (omega arith) (omega arith),
      )
      (sym (octet-same (λ n. n / 2 * 2) upper tt b l))

  pub all_bits : ((j : ℕ) → j < 8 → bit j a ≡ bit j b) → a ≡ b
  all_bits f =
      octet-same (λ n. n) (λ n. n / 2 * 2 + flag 0 (bit 0 n)) tt a h
      ∙ rw (upper_bits (λ j _ m. f j m), f 0 (omega arith))
      (sym (octet-same (λ n. n) (λ n. n / 2 * 2 + flag 0 (bit 0 n)) tt b l))

-- the test passes either way
abbrev pub always : (Bool → Bool) → Bool
always f = f true && f false

-- a fact of one bit and of four, by a test that is computed at each: `bit_always f tt b`
pub bit_always : (f : Bool → Bool) → T (always f) → (b : Bool) → T (f b)
bit_always f t true = left (f true) (f false) t
bit_always f t false = right (f true) (f false) t

pub bits_always : (f : Bool → Bool → Bool → Bool → Bool) → T (always (λ z. always (λ y. always (λ x. always (f z y x)))))
    → (z y x w : Bool) → T (f z y x w)
bits_always f t z y x w =
    let atz = bit_always (λ z. always (λ y. always (λ x. always (f z y x)))) t z in
    let aty = bit_always (λ y. always (λ x. always (f z y x))) atz y in
    bit_always (f z y x) (bit_always (λ x. always (f z y x)) aty x) w

-- what is left of octets is octets
pub octets-drop : (s : List ℕ) (n : ℕ) → Octets s → Octets (drop n s)
octets-drop s n o k = rw get_or-drop (o (n + k))

-- as many octets with the same bits are the same octets
pub octets-same : (s t : List ℕ) → Octets s → Octets t → length s ≡ length t → ((k j : ℕ) → j < 8 → bit j (get_or s k 0) ≡ bit j (get_or t k 0)) → s ≡ t
octets-same s t o p l f = ext_get_or 0 s t l (λ k _. all_bits (get_or s k 0) (get_or t k 0) (o k) (p k) (f k))

-- each element below 256, one by one
abbrev pub Each : List ℕ → Type 0
Each [] = Unit {0}
Each (b ∷ s) = (b < 256) × Each s

pub octets_each : (s : List ℕ) → Each s → Octets s
octets_each [] h k = omega arith
octets_each (b ∷ s) h zero = h.0
octets_each (b ∷ s) h (suc k) = octets_each s h.1 k

pub octets-take : (s : List ℕ) (n : ℕ) → Octets s → Octets (take n s)
octets-take s zero o k = omega arith
octets-take [] (suc n) o k = omega arith
octets-take (x ∷ s) (suc n) o zero = o 0
octets-take (x ∷ s) (suc n) o (suc k) = octets-take s n (λ j. o (suc j)) k
