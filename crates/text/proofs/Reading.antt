-- How the loops and tests of the readers come to their definitions: one turn, the end, and what each refusal of an SSID's text rests on.
use Rattle.std.proofs.Common.{Some, None, Err}
use Prim.Native.Nat.{ℕ, ◌+◌, ◌*◌, ◌-◌, ◌<◌, ◌≤◌}
use mathlib.Core.Path.{◌≡◌, refl}
use mathlib.Core.Bool.{true, false}
use mathlib.Core.List.{List, [], ◌∷◌}
use native.Mathlib.Numerals.{add-one}
use native.Mathlib.Omega.{arith}
use borrow.Author.Tests.{lt-ltb, le-ltb, le-leb, lt-leb, eq-eqb, ne_eqb}
use lib.ListN.{length, get_or, take, drop, drop_of_length-le}
use lib.Seq.{drop-cons, take_all}
use Rattle.octets.specs.All.{all}
use Rattle.octets.specs.First.{first}
use Rattle.octets.proofs.Choice.{by, and_false}
use Rattle.address.specs.Address.{low}
use Rattle.text.specs.declared.AddressError.TheVariants.{InvalidSsid}
use Rattle.text.specs.Text.{hyphen, digit, decimal_from, decimal, digits8, after_plus, many_hyphens, bad_ssid, ssid_value, digits_say, read_callsign, read_text}

pub decimal_step : (s : List ℕ) (i v : ℕ) → i < length s → decimal_from v (drop i s) ≡ decimal_from (v * 10 + (get_or s i 0 - 48)) (drop (i + 1) s)
unfolding decimal_from
decimal_step s i v h = rw (add-one, drop-cons s i 0)

pub decimal_end : (s : List ℕ) (i v : ℕ) → length s ≤ i → decimal_from v (drop i s) ≡ v
unfolding decimal_from
decimal_end s i v h = rw (drop_of_length-le s h)

-- no digit makes the value smaller
pub decimal_least : (v : ℕ) (s : List ℕ) → v ≤ decimal_from v s
unfolding decimal_from
decimal_least v [] = omega arith
decimal_least v (d ∷ ds) = omega (arith, decimal_least (v * 10 + (d - 48)) ds)

-- what digits say
pub say_none : (ds : List ℕ) → length ds ≡ 0 → digits_say ds ≡ None
unfolding digits_say digits8
say_none ds h = simp (le-ltb 0 (length ds) (omega arith))

pub say-strange : (ds : List ℕ) → all digit ds ≡ false → digits_say ds ≡ None
unfolding digits_say digits8
say-strange ds h = simp (h, and_false)

pub say_big : (ds : List ℕ) → 255 < decimal ds → digits_say ds ≡ None
unfolding digits_say digits8
say_big ds h = simp (lt-leb _ _ h, and_false)

pub say-number : (ds : List ℕ) → 0 < length ds → all digit ds ≡ true → decimal ds ≤ 255 → digits_say ds ≡ Some (decimal ds)
unfolding digits_say digits8
say-number ds l d h = simp (lt-ltb _ _ l, d, le-leb _ _ h)

-- the plus sign
pub after_none : (s : List ℕ) → length s ≡ 0 → after_plus s ≡ s
unfolding after_plus
after_none [] h = refl
after_none (c ∷ s) h = absurd (omega arith)

pub after_plus_lem : (s : List ℕ) → get_or s 0 0 ≡ 43 → after_plus s ≡ drop 1 s
unfolding after_plus
after_plus_lem [] h = refl
after_plus_lem (c ∷ s) h = simp (eq-eqb _ _ h)

pub after-other : (s : List ℕ) → (get_or s 0 0 ≡ 43 → ⊥) → after_plus s ≡ s
unfolding after_plus
after-other [] h = refl
after-other (c ∷ s) h = simp (ne_eqb _ _ h)

-- the three ways that a text may go on after the tests of its octets and hyphens: without an SSID, with one, and with one that is no number
module _ (t : List ℕ) (lows : all low t ≡ true) (few : many_hyphens t ≡ false) where
  pub read_without : first hyphen t ≡ length t → read_text t ≡ read_callsign t 0
  unfolding read_text bad_ssid ssid_value
  read_without e = simp (lows, few, e, le-ltb (length t) (length t) (omega arith), take_all (length t) t (omega arith))

  module _ (at : ℕ) (here : at < length t) (e : first hyphen t ≡ at) where
    pub read_number : (s : ℕ) → Some s ≡ digits_say (after_plus (drop (at + 1) t)) → read_text t ≡ read_callsign (take at t) s
    unfolding read_text bad_ssid ssid_value digits_say
    read_number s d =
        by (digits8 (after_plus (drop (at + 1) t)))
        (λ q. let n : decimal (after_plus (drop (at + 1) t)) ≡ s = number (decimal (after_plus (drop (at + 1) t))) s (rw q at d) in
        simp (lows, few, e, lt-ltb at (length t) here, q, n))
        (λ q. absurd (nothing s (rw q at d)))
      where
        number : (n s : ℕ) → Some s ≡ Some n → n ≡ s
        number n s e = cc

        nothing : (s : ℕ) → Some s ≡ None → ⊥
        nothing s e = cc

    pub read_strange : None ≡ digits_say (after_plus (drop (at + 1) t)) → read_text t ≡ Err InvalidSsid
    unfolding read_text bad_ssid ssid_value digits_say
    read_strange d =
        by (digits8 (after_plus (drop (at + 1) t)))
        (λ q. absurd (something (decimal (after_plus (drop (at + 1) t))) (rw q at d)))
        (λ q. simp (lows, few, e, lt-ltb at (length t) here, q))
      where
        something : (n : ℕ) → None ≡ Some n → ⊥
        something n e = cc
