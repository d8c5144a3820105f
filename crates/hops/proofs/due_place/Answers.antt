-- The due place is the first clear bit of the hop set.
use mathlib.Core.Path.{◌∙◌}
use Rattle.hops.proofs.Laws.{due_clear}
use Rattle.hops.proofs.due_place.Goals as goal

pub returns : goal.returns
returns c = c.first_clear.ensures ∙ rw c.hop_set.ensures (due_clear _)
