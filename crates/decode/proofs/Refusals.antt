-- A refused decode is its answer with the default frame and no info.
use Prim.Native.Nat.{ℕ, ◌+◌, ◌-◌}
use mathlib.Core.Path.{◌≡◌, refl}
use mathlib.Core.Bool.{false, true≢false}
use Rattle.std.specs.Prelude.{Result, Ok, Err}
use mathlib.Core.List.{List}
use lib.Dec.{eqb, ltb}
use lib.ListN.{length, drop}
use Rattle.octets.proofs.Choice.{either}
use Rattle.control.specs.declared.Mode.{Mode}
use Rattle.parse.specs.Content.{content_of}
use Rattle.content.specs.declared.FrameContent.{FrameContent}
use Rattle.parse.specs.declared.ContentError.{ContentError}
use Rattle.decode.specs.Answer.{DecodeAnswer, is_accepted}
use Rattle.decode.specs.Read.{Decoding, start_of, end_of, repeaters_of, refused_with, accepted_with, with_content, decode_field, decode}

abbrev Bare : Decoding → Type 0
Bare d = is_accepted d.answer ≡ false → d ≡ refused_with d.answer

bare : (a : DecodeAnswer) → Bare (refused_with a)
unfolding refused_with
bare a e = refl

bare-content : (m : Mode) (s : List ℕ) (start n control : ℕ) (a : Result FrameContent ContentError) → Bare (with_content m s start n control a)
unfolding with_content accepted_with
bare-content m s start n control (Ok k) e = absurd (true≢false e)
bare-content m s start n control (Err x) e = bare _ e

pub refused_is : (m : Mode) (s : List ℕ) → is_accepted (decode m s).answer ≡ false → decode m s ≡ refused_with (decode m s).answer
unfolding decode decode_field
refused_is m s =
    either Bare (eqb (start_of s) (length s)) (λ _. bare _)
    (λ _. either Bare (ltb 0 (start_of s)) (λ _. bare _)
    (λ _. either Bare (eqb (end_of s) (length s)) (λ _. bare _)
    (λ _. either Bare (ltb (end_of s + 1 - 0) 14) (λ _. bare _)
    (λ _. either Bare (eqb (end_of s + 1) (length s)) (λ _. bare _)
    (λ _. either Bare (ltb 8 (repeaters_of 0 (end_of s))) (λ _. bare _)
    (λ _. bare-content m s _ _ _ (content_of m (drop (end_of s + 1) s))))))))
