-- Laws of how many elements pass a test: how a loop comes to it, and at most how many there are.
use Prim.Native.Nat.{ℕ, suc, ◌+◌, ◌≤◌, ◌<◌}
use mathlib.Core.Path.{◌≡◌}
use mathlib.Core.Bool.{Bool, cond}
use mathlib.Core.List.{List, [], ◌∷◌, ◌++◌}
use native.Mathlib.Numerals.{add-one}
use native.Mathlib.Omega.{arith}
use lib.ListN.{length, get_or, drop, drop_of_length-le}
use lib.Seq.{drop-cons}
use Rattle.octets.specs.Count.{count}
use Rattle.octets.proofs.Choice.{by, either}

module _ {A : Type 0} (p : A → Bool) where
  -- one turn of a loop: the count from place i on
  pub count_step : (s : List A) (i : ℕ) (d : A) → i < length s
      → count p (drop i s) ≡ cond (p (get_or s i d)) (suc (count p (drop (i + 1) s))) (count p (drop (i + 1) s))
  unfolding count
  count_step s i d h = rw (add-one, drop-cons s i d)

  -- and its end
  pub count_end : (s : List A) (i : ℕ) → length s ≤ i → count p (drop i s) ≡ 0
  unfolding count
  count_end s i h = rw (drop_of_length-le s h)

  -- of two lists, one behind the other
  pub count_append : (a s : List A) → count p (a ++ s) ≡ count p a + count p s
  unfolding count
  count_append [] s = omega arith
  count_append (x ∷ a) s = let h = count_append a s in by (p x) (λ e. rw e (omega arith)) (λ e. rw e h)

  -- no more pass than there are
  pub count_le : (s : List A) → count p s ≤ length s
  unfolding count
  count_le [] = omega arith
  count_le (x ∷ s) =
      let h = count_le s in
      either (λ (n : ℕ). n ≤ suc (length s)) (p x) (λ e. omega arith) (λ e. omega arith)
