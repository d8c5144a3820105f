-- Laws of the first element that passes: what a search finds, what it goes past, and how a loop comes to it.
use Prim.Native.Nat.{ℕ, zero, suc, ◌+◌, ◌≤◌, ◌<◌}
use mathlib.Core.Path.{◌≡◌, refl, ap, ◌∙◌}
use mathlib.Core.Bool.{Bool, true, false, cond, not, ◌&&◌}
use mathlib.Core.List.{List, [], ◌∷◌, ◌++◌}
use native.Mathlib.Numerals.{add-one}
use native.Mathlib.Omega.{arith}
use borrow.Author.Tests.{leb-true, leb-false, le-leb}
use lib.Dec.{eqb, leb, eqb-zero-suc, eqb-suc-suc}
use lib.ListN.{length, get_or, drop, drop_of_length-le}
use lib.Seq.{drop-cons}
use Rattle.octets.specs.First.{first}
use Rattle.octets.specs.All.{all}
use Rattle.octets.proofs.Choice.{by, either}

module _ {A : Type 0} (p : A → Bool) where
  -- one turn of a loop: the search from place i on
  pub first_step : (s : List A) (i : ℕ) (d : A) → i < length s → first p (drop i s) ≡ cond (p (get_or s i d)) 0 (suc (first p (drop (i + 1) s)))
  unfolding first
  first_step s i d h = rw (add-one, drop-cons s i d)

  -- and its end
  pub first_end : (s : List A) (i : ℕ) → length s ≤ i → first p (drop i s) ≡ 0
  unfolding first
  first_end s i h = rw (drop_of_length-le s h)

  pub first_le : (s : List A) → first p s ≤ length s
  unfolding first
  first_le [] = omega arith
  first_le (x ∷ s) = either (λ (n : ℕ). n ≤ suc (length s)) (p x) (λ e. omega arith) (λ e. omega (arith, first_le s))

  -- what is found passes
  pub first_passes : (s : List A) (d : A) → first p s < length s → p (get_or s (first p s) d) ≡ true
  unfolding first
  first_passes [] d h = absurd (omega arith)
  first_passes (x ∷ s) d h =
      by (p x) (λ e. rw e e) (λ e. let l : suc (first p s) < suc (length s) = rw e at h in rw e (first_passes s d (omega arith)))

  -- nothing before it does
  pub first_before : (s : List A) (d : A) (k : ℕ) → k < first p s → p (get_or s k d) ≡ false
  unfolding first
  first_before [] d k h = absurd (omega arith)
  first_before (x ∷ s) d zero h =
      by (p x) (λ e. let l : 0 < 0 = rw e at h in absurd (omega arith)) (λ e. e)
  first_before (x ∷ s) d (suc k) h =
      by (p x) (λ e. let l : suc k < 0 = rw e at h in absurd (omega arith))
      (λ e. let l : suc k < suc (first p s) = rw e at h in first_before s d k (omega arith))

  -- a place that passes, with nothing before it that does, is the one
  pub first_is : (s : List A) (d : A) (k : ℕ) → k < length s → p (get_or s k d) ≡ true → ((j : ℕ) → j < k → p (get_or s j d) ≡ false) → first p s ≡ k
  unfolding first
  first_is [] d k h e f = absurd (omega arith)
  first_is (x ∷ s) d zero h e f = rw e
  first_is (x ∷ s) d (suc k) h e f =
      rw (f 0 (omega arith)) (ap suc (first_is s d k (omega arith) e (λ j l. f (suc j) (omega arith))))

  -- a search may start as far on as nothing passes before
  pub first_skip : (s : List A) (k : ℕ) → k ≤ first p s → first p s ≡ k + first p (drop k s)
  unfolding first
  first_skip s zero h = omega arith
  first_skip [] (suc k) h = absurd (omega arith)
  first_skip (x ∷ s) (suc k) h =
      by (p x) (λ e. let l : suc k ≤ 0 = rw e at h in absurd (omega arith))
      (λ e. let l : suc k ≤ suc (first p s) = rw e at h in rw e (omega (arith, first_skip s k (omega arith))))

  -- whether nothing passes at places below the next one, by whether nothing does below this one
  pub first_beyond : (s : List A) (k : ℕ) (d : A) → k < length s → leb (k + 1) (first p s) ≡ (leb k (first p s) && not (p (get_or s k d)))
  first_beyond s k d h =
      by (leb (k + 1) (first p s))
      (λ e. let l : k + 1 ≤ first p s = leb-true _ _ e in
      rw (e, le-leb k (first p s) (omega arith), first_before s d k (omega arith)) refl)
      (λ e. let l : first p s < k + 1 = leb-false _ _ e in
      by (leb k (first p s))
      (λ f. let m : k ≤ first p s = leb-true _ _ f in
      let here : first p s ≡ k = omega arith in
      rw (e, f, rw here at (first_passes s d (omega arith))) refl)
      (λ f. rw (e, f) refl))

  -- a search goes past a part in which nothing passes
  pub first_past : (a s : List A) (d : A) → ((j : ℕ) → j < length a → p (get_or a j d) ≡ false) → first p (a ++ s) ≡ length a + first p s
  unfolding first
  first_past [] s d f = omega arith
  first_past (x ∷ a) s d f =
      rw (f 0 (omega arith)) (ap suc (first_past a s d (λ j l. f (suc j) (omega arith))) ∙ omega arith)

  -- and no further than a part in which something does
  pub first_within : (a s : List A) → first p a < length a → first p (a ++ s) ≡ first p a
  unfolding first
  first_within [] s h = absurd (omega arith)
  first_within (x ∷ a) s h =
      by (p x) (λ e. rw e) (λ e. let l : suc (first p a) < suc (length a) = rw e at h in rw e (ap suc (first_within a s (omega arith))))

-- a test that passes whatever another passes is met no later
pub first_sooner : {A : Type 0} (p q : A → Bool) → ((x : A) → p x ≡ true → q x ≡ true) → (s : List A) → first q s ≤ first p s
unfolding first
first_sooner p q h [] = omega arith
first_sooner p q h (x ∷ s) =
    by (p x) (λ e. rw (h x e) (omega arith))
    (λ e. rw e (either (λ (n : ℕ). n ≤ suc (first p s)) (q x) (λ _. omega arith) (λ _. omega (arith, first_sooner p q h s))))

-- a search comes to the end exactly where every element fails
pub first-all : {A : Type 0} (p : A → Bool) (s : List A) → eqb (first p s) (length s) ≡ all (λ x. not (p x)) s
unfolding first all
first-all p [] = refl
first-all p (x ∷ s) =
    by (p x) (λ e. rw e (eqb-zero-suc (length s))) (λ e. rw e (eqb-suc-suc (first p s) (length s) ∙ first-all p s))

-- two tests that agree on every element find the same
pub first-same : {A : Type 0} (p q : A → Bool) (s : List A) (d : A) → ((k : ℕ) → k < length s → p (get_or s k d) ≡ q (get_or s k d)) → first p s ≡ first q s
unfolding first
first-same p q [] d f = refl
first-same p q (x ∷ s) d f = rw (f 0 (omega arith), first-same p q s d (λ k l. f (suc k) (omega arith)))
