-- Both as they are of the input.
use mathlib.Core.Path.{refl}
use Rattle.reason.proofs.judge.Goals as goal

pub returns : goal.returns
returns c = rw (c.by_outline-reason.ensures, c.outline_of-outline.ensures) refl
