-- Laws of a list with a part replaced: where the part fits, where it does not, its length, one part after the other, and what
-- stores at one place after the other leave.
use Prim.Native.Nat.{ℕ, ◌+◌, ◌-◌, ◌≤◌, ◌<◌}
use mathlib.Core.Path.{◌≡◌, refl, ap, sym, ◌∙◌}
use mathlib.Core.List.{List, [], ◌∷◌, ◌++◌, append_assoc, append-nil}
use native.Mathlib.Nat.{add-zero}
use native.Mathlib.Numerals.{add-one}
use native.Mathlib.Omega.{arith}
use borrow.Author.Tests.{le-leb, lt-leb, leb-true, leb-false}
use lib.Dec.{leb}
use lib.ListN.{length, get_or, set, take, drop, length-drop, length-append, take-append-drop, drop_of_length-le}
use lib.Seq.{sets, sets-eq, set_split, take-suc, length-take-le, take_all, take_at, drop-append-add, drop-drop}
use Rattle.octets.specs.Splice.{splice}
use Rattle.octets.proofs.Choice.{by}

-- the part `&l[k..]` of a slice
pub part_from : {A : Type 0} (l : List A) (k : ℕ) → take (length l - k) (drop k l) ≡ drop k l
part_from l k = take_all (length l - k) (drop k l) (simp length-drop (omega arith))

module _ {A : Type 0} where
  pub splice_in : (l : List A) (at : ℕ) (part : List A) → at + length part ≤ length l
      → splice l at part ≡ take at l ++ (part ++ drop (at + length part) l)
  unfolding splice
  splice_in l at part h = simp (le-leb _ _ h)

  pub splice_out : (l : List A) (at : ℕ) (part : List A) → length l < at + length part → splice l at part ≡ l
  unfolding splice
  splice_out l at part h = simp (lt-leb _ _ h)

  pub splice-length : (l : List A) (at : ℕ) (part : List A) → length (splice l at part) ≡ length l
  splice-length l at part =
      by (leb (at + length part) (length l))
      (λ e. let h : at + length part ≤ length l = leb-true _ _ e in
      let k : at ≤ length l = omega arith in
      rw (splice_in l at part h) (simp (length-append, length-drop, length-take-le at l k) (omega arith)))
      (λ e. ap length (splice_out l at part (leb-false _ _ e)))

  pub splice_none : (l : List A) (at : ℕ) → splice l at [] ≡ l
  splice_none l at =
      by (leb (at + 0) (length l))
      (λ e. splice_in l at [] (leb-true _ _ e) ∙ rw add-zero (take-append-drop at l))
      (λ e. splice_out l at [] (leb-false _ _ e))

  past : (p q : List A) (n m : ℕ) → length p ≡ n → drop (n + m) (p ++ q) ≡ drop m q
  past p q n m e = rw (← e) (drop-append-add p q m)

  -- one part after the other is the two parts at once
  pub splice-more : (l : List A) (at : ℕ) (a b : List A) → at + length a + length b ≤ length l
      → splice (splice l at a) (at + length a) b ≡ splice l at (a ++ b)
  splice-more l at a b h =
      let p : List A = take at l ++ a in
      let q : List A = drop (at + length a) l in
      let hp : length p ≡ at + length a = length-append (take at l) a ∙ ap (λ (k : ℕ). k + length a) (length-take-le at l (omega arith)) in
      let first : splice l at a ≡ p ++ q = splice_in l at a (omega arith) ∙ sym (append_assoc (take at l) a q) in
      let long : length (p ++ q) ≡ length l = ap length (sym first) ∙ splice-length l at a in
      let after : drop (at + length a + length b) (p ++ q) ≡ drop (at + length a + length b) l =
      past p q (at + length a) (length b) hp ∙ drop-drop (length b) (at + length a) l in
      let both : at + length (a ++ b) ≡ at + length a + length b = omega (arith, length-append a b) in
      rw first
      (splice_in (p ++ q) (at + length a) b (omega arith)
      ∙ rw (take_at p q (at + length a) hp, after)
      (sym (splice_in l at (a ++ b) (omega arith) ∙ rw both (simp append_assoc))))

  -- a part of one element is a store
  pub splice_one : (l : List A) (at : ℕ) (v : A) → at < length l → splice l at (v ∷ []) ≡ set l at v
  splice_one l at v h = splice_in l at (v ∷ []) (omega arith) ∙ rw add-one (sym (set_split l at v h))

  -- one turn of a loop that copies a part to its place
  pub splice_turn : (l : List A) (at : ℕ) (part : List A) (i : ℕ) (d : A) → i < length part → at + length part ≤ length l
      → set (splice l at (take i part)) (at + i) (get_or part i d) ≡ splice l at (take (i + 1) part)
  splice_turn l at part i d h fits =
      let n : length (take i part) ≡ i = length-take-le i part (omega arith) in
      let k : at + i < length (splice l at (take i part)) = rw splice-length (omega arith) in
      let v : List A = get_or part i d ∷ [] in
      let more : splice (splice l at (take i part)) (at + length (take i part)) v ≡ splice l at (take i part ++ v) =
      splice-more l at (take i part) v (rw n (omega arith)) in
      sym (splice_one _ (at + i) (get_or part i d) k) ∙ rw n at more ∙ rw (add-one, take-suc part i d) refl

  -- stores at one place after the other
  pub splice-stores : (part l : List A) (at : ℕ) → at + length part ≤ length l → sets l at part ≡ splice l at part
  splice-stores part l at h = sets-eq part l at h ∙ simp append_assoc (sym (splice_in l at part h))

  -- the same, the first part's length given as a number
  pub splice-then : (l : List A) (at n : ℕ) (a b : List A) → length a ≡ n → at + n + length b ≤ length l
      → splice (splice l at a) (at + n) b ≡ splice l at (a ++ b)
  splice-then l at n a b e h = rw (← e) (splice-more l at a b (rw e h))

  -- a store, and the rest of the part behind it
  pub splice-cons : (l : List A) (at : ℕ) (v : A) (part : List A) → at + 1 + length part ≤ length l
      → splice (set l at v) (at + 1) part ≡ splice l at (v ∷ part)
  splice-cons l at v part h = rw (← splice_one l at v (omega arith)) (splice-then l at 1 (v ∷ []) part refl h)

  -- a part written at the start of `&mut l[at..]`, seen in the whole list
  pub splice_part : (l : List A) (at : ℕ) (part : List A) → at ≤ length l
      → take at l ++ (splice (take (length l - at) (drop at l)) 0 part ++ drop (length l - at) (drop at l)) ≡ splice l at part
  splice_part l at part h =
      let m : List A = drop at l in
      let n : length m ≡ length l - at = length-drop at l in
      let none : drop (length l - at) m ≡ [] = drop_of_length-le m {i = length l - at} (omega arith) in
      rw (part_from l at, none, append-nil)
      (by (leb (at + length part) (length l))
      (λ e. let f : at + length part ≤ length l = leb-true _ _ e in
      let z : 0 + length part ≡ length part = omega arith in
      let first : splice m 0 part ≡ part ++ drop (length part) m = splice_in m 0 part (omega arith) ∙ rw z refl in
      rw (first, drop-drop) (sym (splice_in l at part f)))
      (λ e. let f : length l < at + length part = leb-false _ _ e in
      rw (splice_out m 0 part (omega arith), splice_out l at part f) (take-append-drop at l)))
