-- By whether the part is inside.
use mathlib.Core.Path.{◌≡◌, refl, sym, ◌∙◌}
use mathlib.Core.Bool.{true, false}
use lib.ListN.{length}
use Rattle.captures.specs.Capture.{is_inside, filled}
use Rattle.captures.proofs.filled.Goals as goal
use Rattle.captures.proofs.filled.Goals.{Else-not-is_inside}

inside : (c : Else-not-is_inside) → let a = c.args in is_inside (length a.input.now) a.capture ≡ true
inside c = sym c.is_inside.ensures ∙ c.if-not-is_inside.false

pub returns-then-not-is_inside : goal.returns-then-not-is_inside
unfolding filled
returns-then-not-is_inside c =
    let beyond : is_inside (length c.args.input.now) c.args.capture ≡ false =
    sym c.is_inside.ensures ∙ c.if-not-is_inside.true in
    c.outside.ensures ∙ rw beyond refl

pub answered-requires : goal.answered-requires
answered-requires c = inside (goal.at.answered-requires c).Else-not-is_inside

pub returns : goal.returns
unfolding filled
returns c = c.answered.ensures ∙ rw (inside (goal.at.returns c).Else-not-is_inside) refl
