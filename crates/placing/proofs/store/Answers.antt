-- Seven stores, one after the other, are the splice of the seven octets.
use Prim.Native.Nat.{ℕ, ◌+◌, ◌≤◌, ◌<◌}
use mathlib.Core.Path.{◌≡◌, sym}
use mathlib.Core.List.{List, [], ◌∷◌}
use native.Mathlib.Numerals.{unary_clauses}
use native.Mathlib.Omega.{arith}
use lib.Dec.{lit<, lit≤}
use lib.ListN.{length, length-set, set}
use mir.Syntax.{w64}
use mir.Val.{Fits}
use borrow.Author.Tests.{le-leb, lt-leb}
use Rattle.octets.specs.Splice.{splice}
use Rattle.octets.proofs.Splice.{splice_out, splice-stores}
use Rattle.placing.proofs.Places.{within, fits}
use borrow.Author.Rules.{rules}
use Rattle.placing.proofs.store.Goals as goal
use Rattle.placing.proofs.store.Goals.{Else-room-at}

seven-stores : (l : List ℕ) (at a b c d e f g : ℕ) → at + 7 ≤ length l
    → set (set (set (set (set (set (set l at a) (at + 1) b) (at + 2) c) (at + 3) d) (at + 4) e) (at + 5) f) (at + 6) g
    ≡ splice l at (a ∷ b ∷ c ∷ d ∷ e ∷ f ∷ g ∷ [])
seven-stores l at a b c d e f g h = simp unary_clauses (splice-stores (a ∷ b ∷ c ∷ d ∷ e ∷ f ∷ g ∷ []) l at h)

-- the seven places are there, and their numbers fit
inside : (c : Else-room-at) → let a = c.args in a.at + 7 ≤ length a.out.now
inside c = omega arith

last_fits : (c : Else-room-at) → Fits w64 (c.args.at + 7)
last_fits c = search rules

pub returns-then-room-lt7 : goal.returns-then-room-lt7
returns-then-room-lt7 c =
    let a = c.args in
    let h : length a.out.now < a.at + 7 = omega arith in
    record { value = sym (lt-leb _ _ h); out_after = sym (splice_out _ _ _ h) }

pub returns-then-room-at : goal.returns-then-room-at
returns-then-room-at c =
    let a = c.args in
    let h : length a.out.now < a.at + 7 = omega arith in
    record { value = sym (lt-leb _ _ h); out_after = sym (splice_out _ _ _ h) }

pub overflow_add-out : goal.overflow_add-out
overflow_add-out c = fits _ 1 (lit≤ tt) (last_fits (goal.at.overflow_add-out c).Else-room-at)

pub bounds-out-at-2 : goal.bounds-out-at-2
bounds-out-at-2 c = simp length-set (within _ 1 _ (lit< tt) (inside (goal.at.bounds-out-at-2 c).Else-room-at))

pub overflow_add-out-2 : goal.overflow_add-out-2
overflow_add-out-2 c = fits _ 2 (lit≤ tt) (last_fits (goal.at.overflow_add-out-2 c).Else-room-at)

pub bounds-out-at-3 : goal.bounds-out-at-3
bounds-out-at-3 c = simp length-set (within _ 2 _ (lit< tt) (inside (goal.at.bounds-out-at-3 c).Else-room-at))

pub overflow_add-out-3 : goal.overflow_add-out-3
overflow_add-out-3 c = fits _ 3 (lit≤ tt) (last_fits (goal.at.overflow_add-out-3 c).Else-room-at)

pub bounds-out-at-4 : goal.bounds-out-at-4
bounds-out-at-4 c = simp length-set (within _ 3 _ (lit< tt) (inside (goal.at.bounds-out-at-4 c).Else-room-at))

pub overflow_add-out-4 : goal.overflow_add-out-4
overflow_add-out-4 c = fits _ 4 (lit≤ tt) (last_fits (goal.at.overflow_add-out-4 c).Else-room-at)

pub bounds-out-at-5 : goal.bounds-out-at-5
bounds-out-at-5 c = simp length-set (within _ 4 _ (lit< tt) (inside (goal.at.bounds-out-at-5 c).Else-room-at))

pub overflow_add-out-5 : goal.overflow_add-out-5
overflow_add-out-5 c = fits _ 5 (lit≤ tt) (last_fits (goal.at.overflow_add-out-5 c).Else-room-at)

pub bounds-out-at-6 : goal.bounds-out-at-6
bounds-out-at-6 c = simp length-set (within _ 5 _ (lit< tt) (inside (goal.at.bounds-out-at-6 c).Else-room-at))

pub overflow_add-out-6 : goal.overflow_add-out-6
overflow_add-out-6 c = fits _ 6 (lit≤ tt) (last_fits (goal.at.overflow_add-out-6 c).Else-room-at)

pub bounds-out-at-7 : goal.bounds-out-at-7
bounds-out-at-7 c = simp length-set (within _ 6 _ (lit< tt) (inside (goal.at.bounds-out-at-7 c).Else-room-at))

pub shape_of-out : goal.shape_of-out
shape_of-out c = simp length-set

pub returns : goal.returns
returns c =
    let a = c.args in
    record { value = sym (le-leb (a.at + 7) (length a.out.now) (inside (goal.at.returns c).Else-room-at)); out_after = seven-stores a.out.now a.at _ _ _ _ _ _ _ (inside (goal.at.returns c).Else-room-at) }
