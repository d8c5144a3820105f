-- Whether an element that passes has been met, as a loop that looks at each element finds it.
use Rattle.std.proofs.Common.{◌≡◌, ℕ, ◌+◌, ◌<◌, Bool, true, false, not, ◌&&◌, ◌||◌, List, leb, length, get_or, refl}
use Rattle.octets.specs.First.{first}
use Rattle.octets.proofs.First.{first_beyond}

step : (a b : Bool) → not (a && not b) ≡ (not a || b)
step true true = refl
step true false = refl
step false b = refl

module _ {A : Type 0} (p : A → Bool) (s : List A) where
  -- among the first k
  abbrev pub met : ℕ → Bool
  met k = not (leb k (first p s))

  pub met_turn : (k : ℕ) (d : A) → k < length s → met (k + 1) ≡ (met k || p (get_or s k d))
  met_turn k d h = rw (first_beyond p s k d h) (step (leb k (first p s)) (p (get_or s k d)))
