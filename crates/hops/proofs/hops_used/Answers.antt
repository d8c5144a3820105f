-- The ones are counted of the hop set.
use Rattle.hops.specs.Hops.{hops_used}
use Rattle.hops.proofs.hops_used.Goals as goal

pub returns : goal.returns
unfolding hops_used
returns c = rw c.hop_set.ensures
