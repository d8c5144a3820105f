-- The record as it is defined.
use mathlib.Core.Path.{refl}
use Rattle.captures.specs.Capture.{outside}
use Rattle.captures.proofs.outside.Goals as goal

pub returns : goal.returns
unfolding outside
returns c = rw c.default_kind.ensures refl
