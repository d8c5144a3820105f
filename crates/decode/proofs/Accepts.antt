-- What an accepted decode is made of: the facts that its tests showed.
use Prim.Native.Nat.{ℕ, ◌+◌, ◌-◌, ◌≤◌, ◌<◌}
use mathlib.Core.Path.{◌≡◌, refl, sym, ◌∙◌}
use mathlib.Core.Bool.{Bool, true, false, false≢true, cond}
use Rattle.std.specs.Prelude.{Result, Ok, Err}
use mathlib.Core.List.{List}
use native.Mathlib.Omega.{arith}
use borrow.Author.Tests.{ltb-false, eqb-false}
use lib.Dec.{eqb, ltb}
use lib.ListN.{length, get_or, drop}
use Rattle.octets.specs.Octet.{bit}
use Rattle.octets.proofs.First.{first_le, first_passes}
use Rattle.parse.specs.Content.{content_of}
use Rattle.content.specs.declared.FrameContent.{FrameContent}
use Rattle.control.specs.declared.Mode.{Mode}
use Rattle.parse.specs.declared.ContentError.{ContentError}
use Rattle.decode.specs.Answer.{DecodeAnswer, is_accepted}
use Rattle.decode.specs.Read.{Decoding, nonzero, start_of, end_of, repeaters_of, frame_at, refused_with, accepted_with, with_content, decode_field, decode}

pub record Accepts (m : Mode) (s : List ℕ) (d : Decoding) : Type 0 where
  pub count : ℕ
  pub kind : FrameContent
  pub first : nonzero (get_or s 0 0) ≡ true
  pub end_in : end_of s < length s
  pub long : 14 ≤ end_of s + 1
  pub counted : repeaters_of 0 (end_of s) ≡ count
  pub few : count ≤ 8
  pub read : content_of m (drop (end_of s + 1) s) ≡ Ok kind
  pub made : d ≡ accepted_with m (frame_at s 0 count kind) (end_of s + 1) (length s)

module _ (m : Mode) (s : List ℕ) where
  unfoldable If : Decoding → Type 0
  If d = is_accepted d.answer ≡ true → Accepts m s d

  refuse : (a : DecodeAnswer) → is_accepted a ≡ false → If (refused_with a)
  unfolding If refused_with
  refuse a h e = absurd (false≢true (sym h ∙ e))

  unless : (b : Bool) (a : DecodeAnswer) (d : Decoding) → is_accepted a ≡ false → (b ≡ false → If d) → If (cond b (refused_with a) d)
  unless true a d h g = refuse a h
  unless false a d h g = g refl

  by-content : (n : ℕ) → start_of s ≡ 0 → end_of s < length s → 14 ≤ end_of s + 1 → repeaters_of 0 (end_of s) ≡ n → n ≤ 8
      → (a : Result FrameContent ContentError) → content_of m (drop (end_of s + 1) s) ≡ a → If (with_content m s 0 n (end_of s + 1) a)
  unfolding with_content If
  by-content n st ei lo co fe (Ok k) e =
      λ _. record { count = n; kind = k; first = rw st at (first_passes nonzero s 0 (rw st (omega arith))); end_in = ei; long = lo; counted = co; few = fe; read = e; made = refl }
  by-content n st ei lo co fe (Err x) e = refuse _ refl

  by_tests : If (decode m s)
  unfolding decode decode_field
  by_tests =
      unless (eqb (start_of s) (length s)) _ _ refl
      (λ _. unless (ltb 0 (start_of s)) _ _ refl
      (λ a. unless (eqb (end_of s) (length s)) _ _ refl
      (λ b. unless (ltb (end_of s + 1 - 0) 14) _ _ refl
      (λ c. unless (eqb (end_of s + 1) (length s)) _ _ refl
      (λ _. unless (ltb 8 (repeaters_of 0 (end_of s))) _ _ refl
      (λ e. by-content (repeaters_of 0 (end_of s))
      (omega (arith, ltb-false 0 (start_of s) a))
      (omega (arith, eqb-false (end_of s) (length s) b, first_le (bit 0) s))
      (omega (arith, ltb-false (end_of s + 1 - 0) 14 c)) refl (ltb-false 8 _ e)
      (content_of m (drop (end_of s + 1) s)) refl))))))

  pub accepts : is_accepted (decode m s).answer ≡ true → Accepts m s (decode m s)
  unfolding If
  accepts = by_tests
