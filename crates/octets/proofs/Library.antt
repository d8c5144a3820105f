-- The library's words for a test at every element, for the first element that passes, and for how many pass, beside these crates' own: what
-- `all`, `position` and `count` of an iterator answer is said in the library's.
use Rattle.std.proofs.Common.{◌≡◌, ℕ, suc, ◌+◌, ◌<◌, Bool, cond, List, [], ◌∷◌, ◌++◌, Option, MatchOption, length, refl, sym, ap, ◌∙◌, arith, ltb-true, ltb-false}
use Rattle.std.specs.List.{list_all, position_or_len, position, count_by}
use Rattle.std.proofs.lemmas.List.Recursion.{is_count_by}
use Rattle.octets.specs.All.{all}
use Rattle.octets.specs.First.{first}
use Rattle.octets.specs.Count.{count}
use Rattle.octets.proofs.Choice.{by}
use Rattle.octets.proofs.Position.{first_position}
use Rattle.octets.proofs.First.{first_le, first_within}
use lib.Dec.{ltb}

module _ {A : Type 0} (p : A → Bool) where
  pub all-library : (s : List A) → list_all p s ≡ all p s
  unfolding all
  all-library [] = refl
  all-library (x ∷ s) = rw (all-library s)

  pub count-library : (s : List A) → count_by p s ≡ count p s
  unfolding count
  count-library s =
      sym
      (is_count_by (count p) p refl (λ x xs. let e : suc (count p xs) ≡ 1 + count p xs = omega arith in ap (λ (n : ℕ). cond (p x) n (count p xs)) e) s)

  -- what the library's `position` answers
  pub position-first : (s : List A) (r : Option ℕ) → r ≡ position p s → MatchOption r (first p s ≡ length s) (λ k. (k < length s) × (first p s ≡ k))
  position-first s r e =
      let f : position_or_len p s ≡ first p s = sym (first_position p s) in
      by (ltb (position_or_len p s) (length s))
      (λ t. rw (e, t, f) (rw f at (ltb-true _ _ t), refl))
      (λ t. rw (e, t) (omega (arith, first_le p s, f, ltb-false _ _ t)))

  -- a search that comes to the end of a part goes on behind it
  pub first_over : (a s : List A) → first p a ≡ length a → first p (a ++ s) ≡ length a + first p s
  unfolding first
  first_over [] s e = omega arith
  first_over (x ∷ a) s e =
      by (p x) (λ t. let l : 0 ≡ suc (length a) = rw t at e in absurd (omega arith))
      (λ t. let l : suc (first p a) ≡ suc (length a) = rw t at e in rw t (ap suc (first_over a s (omega arith)) ∙ omega arith))

  -- a search of a list by its front part and the rest
  pub first_in_front : (a b s : List A) → s ≡ a ++ b → first p a < length a → first p s ≡ first p a
  first_in_front a b s e h = rw e (first_within p a b h)

  pub first_in_rest : (a b s : List A) → s ≡ a ++ b → first p a ≡ length a → first p s ≡ length a + first p b
  first_in_rest a b s e h = rw e (first_over a b h)
