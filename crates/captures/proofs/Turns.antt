-- A row that a loop goes through and changes in place, one element a turn: what it is after so many turns.
use mathlib.Core.Path.{◌≡◌, refl, ap}
use mathlib.Core.List.{List, [], ◌∷◌, map}
use Prim.Native.Nat.{ℕ, zero, suc}
use lib.ListN.{length, get_or, set}

module _ {A : Type 0} (f : A → A) where
  -- the first i elements are changed
  unfoldable pub after : ℕ → List A → List A
  after zero xs = xs
  after (suc i) [] = []
  after (suc i) (x ∷ xs) = f x ∷ after i xs

  pub after_none : (xs : List A) → after 0 xs ≡ xs
  unfolding after
  after_none xs = refl

  pub after-length : (i : ℕ) (xs : List A) → length (after i xs) ≡ length xs
  unfolding after
  after-length zero xs = refl
  after-length (suc i) [] = refl
  after-length (suc i) (x ∷ xs) = ap suc (after-length i xs)

  -- a turn stores what is made of the element that it finds
  pub after_next : (i : ℕ) (xs : List A) (d : A) → set (after i xs) i (f (get_or (after i xs) i d)) ≡ after (suc i) xs
  unfolding after
  after_next zero [] d = refl
  after_next zero (x ∷ xs) d = refl
  after_next (suc i) [] d = refl
  after_next (suc i) (x ∷ xs) d = ap (λ (l : List A). f x ∷ l) (after_next i xs d)

  pub after-all : (xs : List A) → after (length xs) xs ≡ map f xs
  unfolding after
  after-all [] = refl
  after-all (x ∷ xs) = ap (λ (l : List A). f x ∷ l) (after-all xs)
