-- Old captures are read as they were before leading nulls were refused.
use Prim.Native.Nat.{ℕ, ◌+◌, ◌-◌, ◌≤◌}
use mathlib.Core.Path.{◌≡◌, refl, sym, ◌∙◌}
use mathlib.Core.List.{List}
use native.Mathlib.Omega.{arith}
use borrow.Author.Tests.{eq-eqb, ne_eqb, eqb-true, eqb-false}
use lib.Dec.{eqb}
use lib.ListN.{length, length-drop, drop}
use Rattle.octets.specs.Octet.{bit}
use Rattle.octets.proofs.Choice.{by}
use Rattle.octets.proofs.First.{first_le, first_skip}
use Rattle.control.specs.declared.Mode.{Mode}
use Rattle.decode.specs.Answer.{report_of, number_of, is_accepted}
use Rattle.decode.specs.Read.{nonzero, start_of, end_of, decode}
use Rattle.decode.specs.declared.DecodeError.{DecodeError}
use Rattle.decode.specs.declared.DecodeError.TheVariants as error
use Rattle.std.specs.Prelude.{Ok, Err}
use Rattle.decode.proofs.Read.{start_le_end}
use Rattle.grammar.specs.Moved.{moved_error, moved_info}
use Rattle.grammar.proofs.Moved.{decode_at_start, ten-past, never_ten, moved-number, refused-drop, field-drop, report_inside}
use Rattle.grammar.proofs.Plain.{inside}
use Rattle.grammar.proofs.Refused.{refused_parts}
use Rattle.old_captures.specs.Old.{decode_old, former}

-- nothing of the remainder is null at its start
starts : (s : List ℕ) → start_of (drop (start_of s) s) ≡ 0
starts s = omega (arith, first_skip nonzero s (start_of s) (omega arith))

ends : (s : List ℕ) → end_of s ≡ start_of s + end_of (drop (start_of s) s)
ends s = first_skip (bit 0) s (start_of s) (start_le_end s)

-- the former decoder on every input
pub as_before : (mode : Mode) (s : List ℕ) → decode_old mode s ≡ former mode s
unfolding decode_old former
as_before mode s =
    let k : ℕ = start_of s in
    let t : List ℕ = drop k s in
    let l : length t ≡ length s - k = length-drop k s in
    let some : k ≤ length s = first_le nonzero s in
    let end : end_of s ≡ k + end_of t = ends s in
    rw (decode_at_start mode t (λ _. starts s), starts s)
    (by (eqb k (length s))
    (λ e. rw (e, eq-eqb 0 (length t) (omega (arith, eqb-true k (length s) e))) (sym (refused-drop mode s k (Err error.OnlyNullBytes))))
    (λ e. rw (e, ne_eqb 0 (length t) (λ z. omega (arith, z, eqb-false k (length s) e)))
    (by (eqb (end_of s) (length s))
    (λ b. rw (b, eq-eqb (end_of t) (length t) (omega (arith, eqb-true (end_of s) (length s) b))) (sym (refused-drop mode s k (Err error.NoEndToAddressField))))
    (λ b. let inside = eqb-false (end_of s) (length s) b in
    rw (b, ne_eqb (end_of t) (length t) (λ z. omega (arith, z, inside)), end)
    (sym (field-drop mode s k (end_of t) (omega (arith, inside, first_le (bit 0) s))))))))

-- the decoder, wherever that does not answer 10
pub as_decoded : (mode : Mode) (s : List ℕ) → (number_of (decode mode s).answer ≡ 10 → ⊥) → decode_old mode s ≡ decode mode s
unfolding former
as_decoded mode s n = as_before mode s ∙ sym (decode_at_start mode s (ten-past mode s n))

-- never 10
pub without_ten : (mode : Mode) (s : List ℕ) → number_of (decode_old mode s).answer ≡ 10 → ⊥
unfolding decode_old
without_ten mode s e =
    eqb-false (number_of (decode mode (drop (start_of s) s)).answer) 10 (never_ten mode (drop (start_of s) s) (starts s))
    (sym (moved-number (start_of s) (length s) (decode mode (drop (start_of s) s)).answer) ∙ e)

-- what decode_old is made of, for the functions' proofs: of a refused remainder its refusal moved, of an accepted one its frame with the
-- info moved
module _ (mode : Mode) (s : List ℕ) where
  abbrev rest : List ℕ
  rest = drop (start_of s) s

  pub old_refused : (r : DecodeError) → (decode mode rest).answer ≡ Err r → (decode_old mode s).answer ≡ Err (moved_error (start_of s) (length s) r)
  unfolding decode_old
  old_refused r e = rw e refl

  pub old_accepted : (decode mode rest).answer ≡ Ok tt → (decode_old mode s).answer ≡ Ok tt
  unfolding decode_old
  old_accepted e = rw e refl

  pub old_info : ((decode_old mode s).frame ≡ (decode mode rest).frame)
      × ((decode_old mode s).info_start ≡ moved_info (start_of s) (decode mode rest).info_start)
      × ((decode_old mode s).info_len ≡ (decode mode rest).info_len)
  unfolding decode_old
  old_info = (refl, refl, refl)

-- the places of the remainder, counted from the capture's first octet, stand in the capture
pub places_inside : (mode : Mode) (s : List ℕ) →
    let r = report_of (decode mode (drop (start_of s) s)).answer in
    (start_of s + r.start ≤ length s) × (start_of s + r.end ≤ length s)
places_inside mode s =
    let r = report_inside mode (drop (start_of s) s) in
    let l = length-drop (start_of s) s in
    let some = first_le nonzero s in
    (omega (arith, r.0), omega (arith, r.1))

pub info_inside : (mode : Mode) (s : List ℕ) → start_of s + (decode mode (drop (start_of s) s)).info_start ≤ length s
info_inside mode s =
    let t : List ℕ = drop (start_of s) s in
    let l = length-drop (start_of s) s in
    let some = first_le nonzero s in
    by (is_accepted (decode mode t).answer) (λ e. omega (arith, (inside mode t e).info)) (λ e. omega (arith, (refused_parts mode t e).1))
