-- Elements of a list by their places.
use Prim.Native.Nat.{ℕ, zero, suc, ◌+◌, ◌≤◌, ◌<◌}
use mathlib.Core.Path.{◌≡◌, refl, sym, ◌∙◌}
use mathlib.Core.List.{List, [], ◌∷◌}
use native.Mathlib.Nat.{add-suc}
use native.Mathlib.Numerals.{add-one}
use native.Mathlib.Omega.{arith}
use lib.ListN.{length, get_or, take, drop}
use lib.Seq.{drop-cons, get_or-take, get_or-drop}

-- within a list, what stands there does not hang on what stands for no element
pub get_d_within : (s : List ℕ) (k d e : ℕ) → k < length s → get_or s k d ≡ get_or s k e
get_d_within [] k d e h = absurd (omega arith)
get_d_within (x ∷ s) zero d e h = refl
get_d_within (x ∷ s) (suc k) d e h = get_d_within s k d e (omega arith)

-- an element of the n elements from `at` on
pub get_d_part : {A : Type 0} (n at : ℕ) (s : List A) (k : ℕ) (d : A) → k < n → get_or (take n (drop at s)) k d ≡ get_or s (at + k) d
get_d_part n at s k d h = get_or-take n (drop at s) k d h ∙ get_or-drop at s k d

-- seven elements from `at` on, one by one
pub seven_at : (s : List ℕ) (at : ℕ) → at + 7 ≤ length s
    → get_or s at 0 ∷ get_or s (at + 1) 0 ∷ get_or s (at + 2) 0 ∷ get_or s (at + 3) 0 ∷ get_or s (at + 4) 0 ∷ get_or s (at + 5) 0 ∷ get_or s (at + 6) 0 ∷ []
    ≡ take 7 (drop at s)
seven_at s at h =
    let z : drop at s ≡ get_or s at 0 ∷ drop (at + 1) s = rw add-one (drop-cons s at 0 (omega arith)) in
    sym (rw (z, from 1 (omega arith), from 2 (omega arith), from 3 (omega arith), from 4 (omega arith), from 5 (omega arith), from 6 (omega arith)))
  where
    from : (k : ℕ) → k < 7 → drop (at + k) s ≡ get_or s (at + k) 0 ∷ drop (at + suc k) s
    from k l = rw (add-suc, drop-cons s (at + k) 0 (omega arith))

-- a list of eight that is given place by place
pub of_eight : {A : Type 0} (f : ℕ → A) (d : A) (k : ℕ) → k < 8 → get_or (f 0 ∷ f 1 ∷ f 2 ∷ f 3 ∷ f 4 ∷ f 5 ∷ f 6 ∷ f 7 ∷ []) k d ≡ f k
of_eight f d zero h = refl
of_eight f d (suc zero) h = refl
of_eight f d (suc (suc zero)) h = refl
of_eight f d (suc (suc (suc zero))) h = refl
of_eight f d (suc (suc (suc (suc zero)))) h = refl
of_eight f d (suc (suc (suc (suc (suc zero))))) h = refl
of_eight f d (suc (suc (suc (suc (suc (suc zero)))))) h = refl
of_eight f d (suc (suc (suc (suc (suc (suc (suc zero))))))) h = refl
of_eight f d (suc (suc (suc (suc (suc (suc (suc (suc k)))))))) h = absurd (omega arith)
