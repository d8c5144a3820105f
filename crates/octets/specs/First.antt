-- The first element that passes a test.
use Rattle.std.specs.Prelude.{ℕ, suc, Bool, cond, List, [], ◌∷◌}

-- the place of the first element that passes, or the length where none does
unfoldable pub first : {A : Type 0} → (A → Bool) → List A → ℕ
first p [] = 0
first p (x ∷ s) = cond (p x) 0 (suc (first p s))
