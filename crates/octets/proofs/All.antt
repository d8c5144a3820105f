-- Laws of a test at every element: how a loop comes to it, and what it says of each element.
use Prim.Native.Nat.{ℕ, zero, suc, ◌+◌, ◌≤◌, ◌<◌}
use mathlib.Core.Path.{◌≡◌, refl}
use mathlib.Core.Bool.{Bool, true, ◌&&◌}
use mathlib.Core.List.{List, [], ◌∷◌, ◌++◌}
use native.Mathlib.Numerals.{add-one}
use native.Mathlib.Omega.{arith}
use lib.ListN.{length, get_or, drop, drop_of_length-le}
use lib.Seq.{drop-cons}
use Rattle.octets.specs.All.{all}
use Rattle.octets.proofs.Choice.{by, both}

module _ {A : Type 0} (p : A → Bool) where
  pub all_nil : all p [] ≡ true
  unfolding all
  all_nil = refl

  pub all_cons : (x : A) (s : List A) → all p (x ∷ s) ≡ (p x && all p s)
  unfolding all
  all_cons x s = refl

  -- one turn of a loop: the test from place i on
  pub all_step : (s : List A) (i : ℕ) (d : A) → i < length s → all p (drop i s) ≡ (p (get_or s i d) && all p (drop (i + 1) s))
  unfolding all
  all_step s i d h = rw (add-one, drop-cons s i d)

  -- and its end
  pub all_end : (s : List A) (i : ℕ) → length s ≤ i → all p (drop i s) ≡ true
  unfolding all
  all_end s i h = rw (drop_of_length-le s h)

  -- where every element passes, each does
  pub all_at : (s : List A) (d : A) (k : ℕ) → k < length s → all p s ≡ true → p (get_or s k d) ≡ true
  unfolding all
  all_at [] d k h e = absurd (omega arith)
  all_at (x ∷ s) d zero h e = (both (p x) (all p s) e).0
  all_at (x ∷ s) d (suc k) h e = all_at s d k (omega arith) (both (p x) (all p s) e).1

  -- and where each does, every element passes
  pub all_each : (s : List A) (d : A) → ((k : ℕ) → k < length s → p (get_or s k d) ≡ true) → all p s ≡ true
  unfolding all
  all_each [] d f = refl
  all_each (x ∷ s) d f = rw (f 0 (omega arith)) (all_each s d (λ k h. f (suc k) (omega arith)))

  pub all_append : (a b : List A) → all p (a ++ b) ≡ (all p a && all p b)
  unfolding all
  all_append [] b = refl
  all_append (x ∷ a) b = by (p x) (λ e. rw e (all_append a b)) (λ e. rw e refl)

-- what passes a test passes one that follows from it
pub all-follows : {A : Type 0} (p q : A → Bool) → ((x : A) → p x ≡ true → q x ≡ true) → (s : List A) → all p s ≡ true → all q s ≡ true
unfolding all
all-follows p q f [] e = refl
all-follows p q f (x ∷ s) e =
    let h = both (p x) (all p s) e in
    rw (f x h.0) (all-follows p q f s h.1)
