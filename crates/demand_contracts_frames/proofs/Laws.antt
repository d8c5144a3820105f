-- What is shown of a decode is the whole of it.
use Rattle.std.proofs.Common.{◌≡◌, ◌∙◌, refl, sym, ap, ℕ, List, Ok, Err}
use Rattle.std.specs.Prelude.{false, drop, length}
use Rattle.control.specs.declared.Mode.{Mode}
use Rattle.decode.specs.Answer.{DecodeAnswer, is_accepted}
use Rattle.decode.specs.Read.{Decoding, start_of, refused_with, decode, outcome}
use Rattle.decode.specs.declared.Decoded.{Decoded}
use Rattle.decode.specs.declared.DecodeError.{DecodeError}
use Rattle.decode.proofs.Refusals.{refused_is}
use Rattle.grammar.specs.Moved.{moved, moved_answer}
use Rattle.grammar.proofs.Moved.{refused-drop}
use Rattle.old_captures.specs.Old.{decode_old}
use Rattle.demand_contracts_frames.specs.Shown.{shown_of}

-- where a refusal is bare
abbrev Bare : Decoding → Type 0
Bare d = (r : DecodeError) → d.answer ≡ Err r → refused_with (Err r) ≡ d

abbrev with : Decoding → DecodeAnswer → Decoding
with d a = record { answer = a; frame = d.frame; info_start = d.info_start; info_len = d.info_len }

shown_by : (d : Decoding) → Bare d → (a : DecodeAnswer) → d.answer ≡ a → shown_of (outcome d) ≡ d
shown_by d bare (Ok u) e = ap (λ (x : DecodeAnswer). shown_of (outcome (with d x))) e ∙ ap (with d) (sym e)
shown_by d bare (Err r) e = ap (λ (x : DecodeAnswer). shown_of (outcome (with d x))) e ∙ bare r e

bare_of : (d : Decoding) → (is_accepted d.answer ≡ false → d ≡ refused_with d.answer) → Bare d
bare_of d h r e = rw (← e) (sym (h (rw e refl)))

pub decode_shown : (m : Mode) (s : List ℕ) → shown_of (outcome (decode m s)) ≡ decode m s
decode_shown m s = shown_by (decode m s) (bare_of (decode m s) (refused_is m s)) (decode m s).answer refl

-- moving an answer does not accept what is refused
moved_accepted : (k len : ℕ) (a : DecodeAnswer) → is_accepted (moved_answer k len a) ≡ is_accepted a
moved_accepted k len (Ok u) = refl
moved_accepted k len (Err e) = refl

old_refused : (m : Mode) (s : List ℕ) → is_accepted (decode_old m s).answer ≡ false → decode_old m s ≡ refused_with (decode_old m s).answer
unfolding decode_old
old_refused m s e =
    let t : List ℕ = drop (start_of s) s in
    let f = sym (moved_accepted (start_of s) (length s) (decode m t).answer) ∙ e in
    ap (moved (start_of s) (length s)) (refused_is m t f) ∙ sym (refused-drop m s (start_of s) (decode m t).answer)

pub old_shown : (m : Mode) (s : List ℕ) → shown_of (outcome (decode_old m s)) ≡ decode_old m s
old_shown m s = shown_by (decode_old m s) (bare_of (decode_old m s) (old_refused m s)) (decode_old m s).answer refl
