-- The due place is the definition's, which is the first unmarked one.
use Rattle.demands.proofs.Due.{due_place_lem}
use Rattle.demand_contracts_relay.proofs.due.Goals as goal

pub returns : goal.returns
returns c = rw c.due_place.ensures (due_place_lem c.args.frame)
