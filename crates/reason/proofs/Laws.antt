-- There is no reason exactly where the input is accepted and none of the conditions holds; and what a match tells of a reason.
use Prim.Native.Nat.{ℕ, ◌+◌, ◌%◌, ◌<◌}
use mathlib.Core.Path.{◌≡◌, refl, ◌∙◌}
use mathlib.Core.Bool.{Bool, true, false, cond, not, ◌&&◌}
use mathlib.Core.List.{List}
use native.Mathlib.Omega.{arith}
use borrow.Author.Tests.{eqb-true}
use lib.Dec.{eqb}
use lib.ListN.{get_or, drop}
use Rattle.group.specs.Group.{mark_set}
use Rattle.control.specs.declared.Mode.{Mode}
use Rattle.content_as_written.specs.AsWritten.{has_tail, is_tidy, as_written}
use Rattle.frame.specs.Spell.{marked}
use Rattle.decode.specs.Answer.{number_of, is_accepted}
use Rattle.decode.specs.Read.{end_of, command_of, decode}
use Rattle.decode.proofs.Read.{zero-accepted}
use Rattle.reason.specs.Reason.{code_of, is_none, first_of, accepted_reason, reason_of, place_of, why_of}
use Rattle.reason.specs.declared.Reason.{Reason}
use Rattle.reason.specs.declared.Reason.TheVariants.{None, Leftover, Marks, Tail, Fixed, Refused}

by_tests : (accepted whole marks tail tidy : Bool)
    → is_none (cond accepted (first_of (not whole) (not marks) tail (not tidy)) Refused) ≡ (accepted && (whole && (marks && (not tail && tidy))))
unfolding first_of
by_tests false whole marks tail tidy = refl
by_tests true false marks tail tidy = refl
by_tests true true false tail tidy = refl
by_tests true true true true tidy = refl
by_tests true true true false true = refl
by_tests true true true false false = refl

pub none_is : (m : Mode) (s : List ℕ)
    → is_none (reason_of m s)
    ≡ (is_accepted (decode m s).answer
    && (eqb ((end_of s + 1) % 7) 0
    && (marked (command_of (mark_set (get_or s 6 0)) (mark_set (get_or s 13 0))) && as_written m (drop (end_of s + 1) s))))
unfolding reason_of accepted_reason
none_is m s =
    by_tests (is_accepted (decode m s).answer) (eqb ((end_of s + 1) % 7) 0) (marked (command_of (mark_set (get_or s 6 0)) (mark_set (get_or s 13 0))))
    (has_tail m (drop (end_of s + 1) s)) (is_tidy m (drop (end_of s + 1) s))

first_below : (leftover marks tail fixed : Bool) → code_of (first_of leftover marks tail fixed) < 5
unfolding first_of
first_below true marks tail fixed = omega arith
first_below false true tail fixed = omega arith
first_below false false true fixed = omega arith
first_below false false false true = omega arith
first_below false false false false = omega arith

-- the reason and the number of the whole
pub why_is : (m : Mode) (s : List ℕ) → ((why_of m s).reason ≡ reason_of m s) × ((why_of m s).number ≡ number_of (decode m s).answer)
unfolding why_of
why_is m s = (refl, refl)

-- refused just where decoding is, and else no number and no place
pub refused_why : (m : Mode) (s : List ℕ) → is_accepted (decode m s).answer ≡ false → (why_of m s).reason ≡ Refused
unfolding why_of reason_of
refused_why m s e = rw e refl

pub accepted_why : (m : Mode) (s : List ℕ) → is_accepted (decode m s).answer ≡ true
    → (code_of (why_of m s).reason < 5) × ((why_of m s).number ≡ 0) × ((why_of m s).place ≡ 0)
unfolding why_of reason_of accepted_reason place_of
accepted_why m s e =
    let zero : number_of (decode m s).answer ≡ 0 = eqb-true _ 0 (zero-accepted (decode m s).answer ∙ e) in
    (rw e (first_below _ _ _ _), zero, rw zero refl)

-- what a match on the reason tells where it is not the first case
pub told_some : (r : Reason) → (r ≡ None → ⊥) → is_none r ≡ false
told_some None h = absurd (h refl)
told_some Leftover h = refl
told_some Marks h = refl
told_some Tail h = refl
told_some Fixed h = refl
told_some Refused h = refl
