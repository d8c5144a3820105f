-- Decoding gives each number, with its details, exactly when its row of the table holds.
use Prim.Native.Nat.{ℕ, ◌+◌, ◌-◌, ◌<◌}
use mathlib.Core.Path.{◌≡◌, refl, ap, sym, ◌∙◌}
use mathlib.Core.List.{List}
use mathlib.Core.Bool.{false, cond, not}
use native.Mathlib.Nat.{sub-zero}
use native.Mathlib.Omega.{arith}
use borrow.Author.Tests.{eqb-false}
use lib.Dec.{eqb, ltb}
use lib.ListN.{length, length-drop, drop}
use Rattle.octets.specs.Octet.{bit}
use Rattle.octets.proofs.Choice.{by, either}
use Rattle.octets.proofs.First.{first-all, first_le}
use Rattle.parse.specs.Content as content
use Rattle.content.specs.Refused.{long_frmr, stray_info, stray_pid}
use Rattle.control.specs.declared.Mode.{Mode}
use Rattle.parse.specs.Numbers.{lacks_control, lacks_pid, strange_u, frmr_in_long, wrong_frmr}
use Rattle.parse.proofs.Numbers.{numbers, rows_some}
use Rattle.std.specs.Prelude.{Result, Ok, Err}
use Rattle.content.specs.declared.FrameContent.{FrameContent}
use Rattle.parse.specs.declared.ContentError.{ContentError}
use Rattle.parse.specs.declared.ContentError.TheVariants.{ContentZeroLength, MissingPidField, UnrecognisedUFieldType, WrongSizeFrmrInfo, FrameRejectInLongMode, MissingControlOctet}
use Rattle.decode.specs.Answer.{Report, number, report_of, number_of}
use Rattle.frame.specs.Frame.{write_number}
use Rattle.frame.specs.Spell.{spell}
use Rattle.frame.specs.Write.{frame_encodable, content_answer, write_answer}
use Rattle.frame.specs.declared.Ax25Frame.{Ax25Frame}
use Rattle.decode.specs.Read.{nonzero, start_of, end_of, refused_with, accepted_with, with_content, decode_field, decode, Decoding}
use Rattle.decode.specs.Numbers.{no_start, leading_null, no_end, short_field, no_content, many_repeaters, reported}
use Rattle.decode.proofs.Read.{start-past}

-- the content's answer by its number
content_report : (mode : Mode) (s : List ℕ) (start n control : ℕ) (a : Result FrameContent ContentError)
    → report_of (with_content mode s start n control a).answer ≡ number (content.number_of a)
unfolding with_content refused_with accepted_with
content_report mode s start n control (Ok k) = refl
content_report mode s start n control (Err ContentZeroLength) = refl
content_report mode s start n control (Err MissingPidField) = refl
content_report mode s start n control (Err UnrecognisedUFieldType) = refl
content_report mode s start n control (Err WrongSizeFrmrInfo) = refl
content_report mode s start n control (Err FrameRejectInLongMode) = refl
content_report mode s start n control (Err MissingControlOctet) = refl

-- octets that are not all null start past the first exactly where that is null
pub leads : (s : List ℕ) → eqb (start_of s) (length s) ≡ false → ltb 0 (start_of s) ≡ leading_null s
leads s e = start-past s (omega (arith, eqb-false (start_of s) (length s) e, first_le nonzero s))

pub decode_report : (mode : Mode) (s : List ℕ) → report_of (decode mode s).answer ≡ reported mode s
unfolding decode decode_field refused_with reported
decode_report mode s =
    let P : Decoding → Type 0 = λ d. report_of d.answer ≡ reported mode s in
    let one : eqb (start_of s) (length s) ≡ no_start s = first-all nonzero s in
    let two : eqb (end_of s) (length s) ≡ no_end s = first-all (bit 0) s in
    let three : ltb (end_of s + 1 - 0) 14 ≡ short_field s = ap (λ (n : ℕ). ltb n 14) (sub-zero (end_of s + 1)) in
    either P (eqb (start_of s) (length s)) (λ a. rw (sym one ∙ a) refl)
    (λ a. let ten = leads s a in
    either P (ltb 0 (start_of s)) (λ z. rw (sym one ∙ a, sym ten ∙ z) refl)
    (λ z. either P (eqb (end_of s) (length s)) (λ b. rw (sym one ∙ a, sym ten ∙ z, sym two ∙ b) refl)
    (λ b. either P (ltb (end_of s + 1 - 0) 14) (λ c. rw (sym one ∙ a, sym ten ∙ z, sym two ∙ b, sym three ∙ c) refl)
    (λ c. either P (no_content s) (λ d. rw (sym one ∙ a, sym ten ∙ z, sym two ∙ b, sym three ∙ c, d) refl)
    (λ d. either P (many_repeaters s) (λ e. rw (sym one ∙ a, sym ten ∙ z, sym two ∙ b, sym three ∙ c, d, e) refl)
    (λ e. rw (sym one ∙ a, sym ten ∙ z, sym two ∙ b, sym three ∙ c, d, e)
    (content_report mode _ _ _ _ (content.content_of mode (drop (end_of s + 1) s)) ∙ ap number (numbers mode (drop (end_of s + 1) s)))))))))

-- the numbers alone, row by row: 4 comes from the frame, never from its content
pub decode-rows : (mode : Mode) (s : List ℕ)
    → number_of (decode mode s).answer
    ≡ cond (no_start s) 1 (cond (leading_null s) 10 (cond (no_end s) 2 (cond (short_field s) 3 (cond (no_content s) 4 (cond (many_repeaters s) 9
    (cond (lacks_control mode (drop (end_of s + 1) s)) 12 (cond (lacks_pid mode (drop (end_of s + 1) s)) 5
    (cond (strange_u (drop (end_of s + 1) s)) 7 (cond (frmr_in_long mode (drop (end_of s + 1) s)) 11 (cond (wrong_frmr mode (drop (end_of s + 1) s)) 8 0))))))))))
unfolding reported
decode-rows mode s =
    let c : List ℕ = drop (end_of s + 1) s in
    ap (λ (r : Report). r.number) (decode_report mode s)
    ∙ by (no_start s) (λ a. simp a)
    (λ a. by (leading_null s) (λ z. simp (a, z))
    (λ z. by (no_end s) (λ b. simp (a, z, b))
    (λ b. by (no_content s) (λ d. simp (a, z, b, d) (by (short_field s) (λ q. simp q) (λ q. simp q)))
    (λ d. let in-it : (end_of s ≡ length s → ⊥) = eqb-false (end_of s) (length s) (first-all (bit 0) s ∙ b) in
    let past : (end_of s + 1 ≡ length s → ⊥) = eqb-false (end_of s + 1) (length s) d in
    let some : 0 < length c = rw length-drop (omega (arith, first_le (bit 0) s)) in
    simp (a, z, b, d, rows_some mode c some) (by (short_field s) (λ q. simp q) (λ q. simp q (by (many_repeaters s) (λ r. simp r) (λ r. simp r))))))))

pub write-rows : (mode : Mode) (f : Ax25Frame) (info : List ℕ) (room : ℕ)
    → write_number (write_answer mode f info room)
    ≡ cond (ltb 8 f.route_count) 21 (cond (not (frame_encodable f)) 22 (cond (long_frmr mode f.content) 11
    (cond (stray_info f.content (length info)) 23 (cond (stray_pid f.content) 25 (cond (ltb room (length (spell mode f info))) 24 0)))))
unfolding write_answer content_answer
write-rows mode f info room =
    by (ltb 8 f.route_count) (λ a. simp a)
    (λ a. simp a (by (not (frame_encodable f)) (λ b. simp b)
    (λ b. simp b (by (long_frmr mode f.content) (λ k. simp k)
    (λ k. simp k (by (stray_info f.content (length info)) (λ c. simp c)
    (λ c. simp c (by (stray_pid f.content) (λ d. simp d)
    (λ d. simp d (by (ltb room (length (spell mode f info))) (λ e. simp e) (λ e. simp e)))))))))))
