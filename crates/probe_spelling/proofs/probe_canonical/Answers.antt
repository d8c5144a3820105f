-- By the check.
use mathlib.Core.Path.{◌≡◌, refl, sym}
use Rattle.control.specs.Mode.{mode_of}
use Rattle.spelling.specs.Canonical.{canonical}
use Rattle.probe_spelling.proofs.probe_canonical.Goals as goal
use Rattle.probe_spelling.proofs.probe_canonical.Goals.{After-is_canonical}

checked : (c : After-is_canonical) →
    let a = c.args in
    canonical (mode_of a.mode) a.input.now ≡ c.is_canonical.result
checked c = rw (← c.from.ensures) (sym c.is_canonical.ensures)

pub returns-then-is_canonical : goal.returns-then-is_canonical
returns-then-is_canonical c = rw (checked (goal.at.returns-then-is_canonical c).After-is_canonical, c.if-is_canonical.true) refl

pub returns-else-is_canonical : goal.returns-else-is_canonical
returns-else-is_canonical c = rw (checked (goal.at.returns-else-is_canonical c).After-is_canonical, c.if-is_canonical.false) refl
