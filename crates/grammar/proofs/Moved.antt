-- An address field is read alike with octets before it, but for its places; and what decoding gives stands in the octets.
use Prim.Native.Nat.{ℕ, ◌+◌, ◌-◌, ◌*◌, ◌≤◌, ◌<◌}
use mathlib.Core.Path.{◌≡◌, refl, ap, sym, ◌∙◌}
use mathlib.Core.Bool.{false, false≢true, cond}
use mathlib.Core.List.{List}
use native.Mathlib.Omega.{arith}
use borrow.Author.Tests.{eq-eqb, ne_eqb, eqb-true, eqb-false, ltb-false}
use lib.Dec.{eqb, ltb}
use lib.ListN.{length, length-drop, drop}
use lib.Seq.{drop-drop}
use Rattle.octets.specs.Octet.{bit}
use Rattle.octets.proofs.Choice.{by, either, equal}
use Rattle.octets.proofs.First.{first_le, first-all}
use Rattle.content.specs.Spell.{has_info, front}
use Rattle.content.specs.declared.FrameContent.{FrameContent}
use Rattle.control.specs.declared.Mode.{Mode}
use Rattle.parse.specs.Content.{content_of}
use Rattle.std.specs.Prelude.{Result, Ok, Err}
use Rattle.parse.specs.declared.ContentError.{ContentError}
use Rattle.parse.specs.declared.ContentError.TheVariants as content
use Rattle.parse.proofs.Read.{zero-length}
use Rattle.decode.specs.Answer.{Report, report_of, number_of, DecodeAnswer}
use Rattle.decode.specs.Numbers.{no_start, leading_null, no_end, short_field, no_content, many_repeaters, reported}
use Rattle.parse.specs.Numbers.{lacks_control, lacks_pid, strange_u, frmr_in_long, wrong_frmr}
use Rattle.decode.specs.Read.{nonzero, start_of, end_of, parsed_at, place_at, route_at, frame_at, refused_with, accepted_with, with_content, repeaters_of, decode_field, decode}
use Rattle.decode.specs.declared.DecodeError.TheVariants as error
use Rattle.grammar.specs.Moved.{moved_answer, moved_info, moved}
use Rattle.grammar.proofs.Back.{parsed-drop, entry-drop}
use Rattle.grammar.proofs.Numbers.{leads, decode_report, decode-rows}

module _ (mode : Mode) (s : List ℕ) (k : ℕ) where
  abbrev t : List ℕ
  t = drop k s

  place-drop : (n i : ℕ) → place_at s (k + 14) n i ≡ place_at t 14 n i
  unfolding place_at
  place-drop n i =
      let at : k + 14 + 7 * i ≡ k + (14 + 7 * i) = omega arith in
      rw (at, entry-drop s k (14 + 7 * i)) refl

  frame-drop : (n : ℕ) (c : FrameContent) → frame_at s k n c ≡ frame_at t 0 n c
  unfolding frame_at route_at
  frame-drop n c =
      let z : parsed_at s k ≡ parsed_at t 0 = ap (parsed_at s) (omega arith) ∙ parsed-drop s k 0 in
      simp (z, parsed-drop s k 7, place-drop n)

  info-drop : (at : ℕ) (c : FrameContent)
      → 0 < at → (cond (has_info c) (k + at + length (front mode c)) 0 ≡ moved_info k (cond (has_info c) (at + length (front mode c)) 0))
      × (cond (has_info c) (length s - (k + at + length (front mode c))) 0 ≡ cond (has_info c) (length t - (at + length (front mode c))) 0)
  info-drop at c h =
      by (has_info c)
      (λ e. rw (e, ne_eqb (at + length (front mode c)) 0 (λ z. omega (arith, z)), length-drop) (omega arith, omega arith))
      (λ e. rw e (refl, refl))

  accepted-drop : (n at : ℕ) (c : FrameContent) → 0 < at
      → accepted_with mode (frame_at s k n c) (k + at) (length s) ≡ moved k (length s) (accepted_with mode (frame_at t 0 n c) at (length t))
  unfolding accepted_with
  accepted-drop n at c h =
      let i = info-drop at (frame_at t 0 n c).content h in
      rw (frame-drop n c) (rw (i.0, i.1) refl)

  pub refused-drop : (a : DecodeAnswer) → refused_with (moved_answer k (length s) a) ≡ moved k (length s) (refused_with a)
  unfolding refused_with
  refused-drop a = refl

  content-drop : (n at : ℕ) (a : Result FrameContent ContentError) → 0 < at → (a ≡ Err content.ContentZeroLength → ⊥)
      → with_content mode s k n (k + at) a ≡ moved k (length s) (with_content mode t 0 n at a)
  unfolding with_content
  content-drop n at (Ok c) h z = accepted-drop n at c h
  content-drop n at (Err content.ContentZeroLength) h z = absurd (z refl)
  content-drop n at (Err content.MissingPidField) h z = refused-drop _
  content-drop n at (Err content.UnrecognisedUFieldType) h z = refused-drop _
  content-drop n at (Err content.WrongSizeFrmrInfo) h z = refused-drop _
  content-drop n at (Err content.FrameRejectInLongMode) h z = refused-drop _
  content-drop n at (Err content.MissingControlOctet) h z = refused-drop _

  -- an address field that starts at k is read as the one at the start of what follows k octets
  pub field-drop : (end : ℕ) → k + end < length s → decode_field mode s k (k + end) ≡ moved k (length s) (decode_field mode t 0 end)
  unfolding decode_field
  field-drop end h =
      let l : length t ≡ length s - k = length-drop k s in
      let span : k + end + 1 - k ≡ end + 1 - 0 = omega arith in
      let at : k + end + 1 ≡ k + (end + 1) = omega arith in
      let first : k ≡ k + 0 = omega arith in
      let whole : eqb (k + (end + 1)) (length s) ≡ eqb (end + 1) (length t) =
      equal (eqb (k + (end + 1)) (length s)) (eqb (end + 1) (length t))
      (λ e. eq-eqb (end + 1) (length t) (omega (arith, eqb-true (k + (end + 1)) (length s) e)))
      (λ e. eq-eqb (k + (end + 1)) (length s) (omega (arith, eqb-true (end + 1) (length t) e))) in
      rw (span, at, whole, ← drop-drop (end + 1) k s)
      (by (ltb (end + 1 - 0) 14)
      (λ a. rw a (ap (λ (n : ℕ). refused_with (Err (error.AddressFieldTooShort n (k + end)))) first ∙ refused-drop (Err (error.AddressFieldTooShort 0 end))))
      (λ a. by (eqb (end + 1) (length t)) (λ b. rw (a, b) (refused-drop (Err (error.FrameTooShort (length t)))))
      (λ b. by (ltb 8 (repeaters_of 0 end)) (λ c. rw (a, b, c) (refused-drop (Err error.TooManyRepeaters)))
      (λ c.
      let rest = length-drop (end + 1) t in
      rw (a, b, c) (content-drop (repeaters_of 0 end) (end + 1) (content_of mode (drop (end + 1) t)) (omega arith)
      (λ z. omega (arith, zero-length mode (drop (end + 1) t) z, eqb-false (end + 1) (length t) b)))))))

-- where no null stands before the start there is no 10, and the address field starts there
pub decode_at_start : (mode : Mode) (s : List ℕ) → (eqb (start_of s) (length s) ≡ false → start_of s ≡ 0)
    → decode mode s
    ≡ cond (eqb (start_of s) (length s)) (refused_with (Err error.OnlyNullBytes))
    (cond (eqb (end_of s) (length s)) (refused_with (Err error.NoEndToAddressField)) (decode_field mode s (start_of s) (end_of s)))
unfolding decode
decode_at_start mode s h = by (eqb (start_of s) (length s)) (λ e. rw e refl) (λ e. rw (e, h e) refl)

-- so it is where 10 is not given
pub ten-past : (mode : Mode) (s : List ℕ) → (number_of (decode mode s).answer ≡ 10 → ⊥) → eqb (start_of s) (length s) ≡ false → start_of s ≡ 0
ten-past mode s n e =
    by (ltb 0 (start_of s))
    (λ z. absurd (n (decode-rows mode s ∙ rw (sym (first-all nonzero s) ∙ e, sym (leads s e) ∙ z) refl)))
    (λ z. omega (arith, ltb-false 0 (start_of s) z))

-- and 10 is not given where octets start with the first
pub never_ten : (mode : Mode) (s : List ℕ) → start_of s ≡ 0 → eqb (number_of (decode mode s).answer) 10 ≡ false
never_ten mode s h = rw (decode-rows mode s)
    (let P : ℕ → Type 0 = λ n. eqb n 10 ≡ false in
    let c : List ℕ = drop (end_of s + 1) s in
    either P (no_start s) (λ _. refl)
    (λ a. either P (leading_null s)
    (λ z. absurd (false≢true (rw h at (leads s (first-all nonzero s ∙ a) ∙ z))))
    (λ _. either P (no_end s) (λ _. refl)
    (λ _. either P (short_field s) (λ _. refl)
    (λ _. either P (no_content s) (λ _. refl)
    (λ _. either P (many_repeaters s) (λ _. refl)
    (λ _. either P (lacks_control mode c) (λ _. refl)
    (λ _. either P (lacks_pid mode c) (λ _. refl)
    (λ _. either P (strange_u c) (λ _. refl)
    (λ _. either P (frmr_in_long mode c) (λ _. refl)
    (λ _. either P (wrong_frmr mode c) (λ _. refl) (λ _. refl))))))))))))

-- an answer that is moved keeps its number
pub moved-number : (k len : ℕ) (a : DecodeAnswer) → number_of (moved_answer k len a) ≡ number_of a
moved-number k len (Ok u) = refl
moved-number k len (Err error.OnlyNullBytes) = refl
moved-number k len (Err error.NoEndToAddressField) = refl
moved-number k len (Err (error.AddressFieldTooShort start end)) = refl
moved-number k len (Err (error.FrameTooShort rest)) = refl
moved-number k len (Err error.MissingPidField) = refl
moved-number k len (Err error.UnrecognisedUFieldType) = refl
moved-number k len (Err error.WrongSizeFrmrInfo) = refl
moved-number k len (Err error.TooManyRepeaters) = refl
moved-number k len (Err error.LeadingNullBytes) = refl
moved-number k len (Err error.FrameRejectInLongMode) = refl
moved-number k len (Err error.MissingControlOctet) = refl

-- the details of a refusal: the start is 0, and the end stands in the octets
pub report_inside : (mode : Mode) (s : List ℕ) → ((report_of (decode mode s).answer).start ≡ 0) × ((report_of (decode mode s).answer).end ≤ length s)
unfolding reported
report_inside mode s = rw (decode_report mode s)
    (let P : Report → Type 0 = λ r. (r.start ≡ 0) × (r.end ≤ length s) in
    either P (no_start s) (λ _. (refl, omega arith))
    (λ _. either P (leading_null s) (λ _. (refl, omega arith))
    (λ _. either P (no_end s) (λ _. (refl, omega arith))
    (λ _. either P (short_field s) (λ _. (refl, first_le (bit 0) s))
    (λ _. either P (no_content s) (λ _. (refl, omega arith))
    (λ _. either P (many_repeaters s) (λ _. (refl, omega arith)) (λ _. (refl, omega arith))))))))
