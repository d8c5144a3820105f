-- How the printer comes to its definitions: the callsign's length by one pass, and the text in two parts.
use Rattle.std.proofs.Common.{Result, Ok, Err}
use Rattle.std.specs.Result.{result_unwrap_or}
use Prim.Native.Nat.{ℕ, zero, suc, ◌+◌, ◌≤◌, ◌<◌}
use mathlib.Core.Logic.{◌≢◌}
use mathlib.Core.Path.{◌≡◌, refl, sym, ◌∙◌}
use mathlib.Core.Bool.{true, cond, not, ◌&&◌}
use mathlib.Core.List.{List, [], ◌∷◌, ◌++◌}
use native.Mathlib.Omega.{arith}
use borrow.Author.Tests.{ne_eqb, ltb-true, ltb-false, le-ltb}
use lib.Dec.{eqb, ltb}
use lib.ListN.{length, get_or, take, drop, length-append}
use lib.Seq.{length-take-le}
use Rattle.octets.proofs.Choice.{by, either}
use Rattle.octets.specs.Splice.{splice}
use Rattle.octets.specs.Outcome.{number_by, length_of}
use Rattle.octets.proofs.Splice.{splice_in, splice_out, splice-more}
use Rattle.address.specs.declared.Address.{Address}
use Rattle.address.specs.Address.{encodable}
use Rattle.printing.specs.Print.{space, used, trimmed, decimal_text, ssid_suffix, text_of, short, print_number_of, printed, printed_into}

pub used_le : (s : List ℕ) → used s ≤ length s
unfolding used
used_le [] = omega arith
used_le (c ∷ s) =
    either (λ (n : ℕ). n ≤ suc (length s)) (eqb (used s) 0 && space c) (λ e. omega arith) (λ e. omega (arith, used_le s))

-- none is used where all are spaces
pub used_none : (s : List ℕ) → ((k : ℕ) → k < length s → get_or s k 0 ≡ 32) → used s ≡ 0
unfolding used
used_none [] f = refl
used_none (c ∷ s) f = rw (used_none s (λ k h. f (suc k) (omega arith)), f 0 (omega arith)) refl

-- and else all up to the last that is no space
pub used_last : (s : List ℕ) (i : ℕ) → i < length s → get_or s i 0 ≢ 32 → ((k : ℕ) → i < k → k < length s → get_or s k 0 ≡ 32) → used s ≡ i + 1
unfolding used
used_last [] i h n f = absurd (omega arith)
used_last (c ∷ s) zero h n f = rw (used_none s (λ k l. f (suc k) (omega arith) (omega arith)), ne_eqb c 32 n) refl
used_last (c ∷ s) (suc i) h n f =
    let e : used s ≡ i + 1 = used_last s i (omega arith) n (λ k l m. f (suc k) (omega arith) (omega arith)) in
    rw (e, ne_eqb (i + 1) 0 (λ z. omega arith)) (omega arith)

-- the callsign without its padding is as long as that
pub trimmed-length : (s : List ℕ) → length (take (used s) s) ≡ used s
trimmed-length s = length-take-le (used s) s (used_le s)

pub suffix-short : (s : ℕ) → length (ssid_suffix s) ≤ 3
unfolding ssid_suffix decimal_text
suffix-short s =
    by (eqb s 0)
    (λ e. simp e (omega arith))
    (λ e. by (ltb s 10) (λ h. simp (e, h) (omega arith)) (λ h. simp (e, h) (omega arith)))

-- the text's length, and the text in two parts
module _ (c : List ℕ) (s n : ℕ) (e : n ≡ used c) where
  pub text-length : (m : ℕ) → m ≡ length (ssid_suffix s) → n + m ≡ length (trimmed c ++ ssid_suffix s)
  text-length m f = rw (length-append, trimmed-length, e, f) refl

  pub text-put : (out : List ℕ) → n + length (ssid_suffix s) ≤ length out
      → splice (splice out 0 (take n c)) n (ssid_suffix s) ≡ splice out 0 (trimmed c ++ ssid_suffix s)
  text-put out h =
      let l : length (take n c) ≡ n = length-take-le n c (omega (arith, used_le c)) in
      let m : splice (splice out 0 (take n c)) (0 + length (take n c)) (ssid_suffix s) ≡ splice out 0 (take n c ++ ssid_suffix s) =
      splice-more out 0 (take n c) (ssid_suffix s) (omega arith) in
      let z : 0 + length (take n c) ≡ n = omega arith in
      rw z at m ∙ rw e refl

-- the numbers that printing gives
pub print_numbers : (a : Address) (room : ℕ) → number_by print_number_of (printed a room) ≡ cond (not (encodable a)) 22 (cond (short a room) 24 0)
unfolding printed
print_numbers a room =
    by (encodable a) (λ e. by (short a room) (λ r. simp (e, r)) (λ r. simp (e, r))) (λ e. simp e)

-- what is printed stands at the start of the output, and what lies beyond it stays
pub printed_text : (a : Address) (out : List ℕ) → encodable a ≡ true → length (text_of a) ≤ length out
    → printed_into a out ≡ text_of a ++ drop (length (text_of a)) out
unfolding printed_into
printed_text a out e h =
    let z : 0 + length (text_of a) ≡ length (text_of a) = omega arith in
    rw e (splice_in out 0 (text_of a) (omega arith) ∙ rw z refl)

-- by its number: a refusal has length 0 and leaves the output alone; else the text stands at its start, with its length
pub refused_print : (a : Address) (out : List ℕ) → (number_by print_number_of (printed a (length out)) ≡ 0 → ⊥)
    → (length_of (printed a (length out)) ≡ 0) × (printed_into a out ≡ out)
unfolding printed printed_into
refused_print a out n =
    by (encodable a)
    (λ e. by (short a (length out))
    (λ r. (simp (e, r), rw e (splice_out out 0 (text_of a) (omega (arith, ltb-true (length out) (length (text_of a)) r)))))
    (λ r. absurd (n (simp (e, r)))))
    (λ e. (simp e, simp e))

pub accepted_print : (a : Address) (out : List ℕ) → number_by print_number_of (printed a (length out)) ≡ 0
    → (length_of (printed a (length out)) ≡ length (text_of a)) × (printed_into a out ≡ text_of a ++ drop (length (text_of a)) out)
unfolding printed
accepted_print a out n =
    let rows : ◌≡◌ {A = ℕ} (cond (not (encodable a)) 22 (cond (short a (length out)) 24 0)) 0 = sym (print_numbers a (length out)) ∙ n in
    by (encodable a)
    (λ e. by (short a (length out))
    (λ r. let z : ◌≡◌ {A = ℕ} 24 0 = rw (e, r) at rows in absurd (omega arith))
    (λ r. (simp (e, r), printed_text a out e (ltb-false (length out) (length (text_of a)) r))))
    (λ e. let z : ◌≡◌ {A = ℕ} 22 0 = rw e at rows in absurd (omega arith))

-- what is printed lies within the room, and an address that can be written is printed where its text fits
pub print_within : (a : Address) (room : ℕ) → length_of (printed a room) ≤ room
unfolding printed
print_within a room =
    by (encodable a)
    (λ e. by (short a room) (λ r. simp (e, r) (omega arith)) (λ r. simp (e, r) (ltb-false room (length (text_of a)) r)))
    (λ e. simp e (omega arith))

pub print_fits : (a : Address) (room : ℕ) → encodable a ≡ true → length (text_of a) ≤ room → length_of (printed a room) ≡ length (text_of a)
unfolding printed
print_fits a room e h = simp (e, le-ltb room (length (text_of a)) h)

-- how long a text is that may be refused, as code takes it from a `Result`
pub length-unwrapped : {E : Type 0} (r : Result ℕ E) → result_unwrap_or r 0 ≡ length_of r
length-unwrapped (Ok n) = refl
length-unwrapped (Err e) = refl
