-- What the function gives is the definition's, of which the demand is proved.
use Rattle.demands.proofs.Captures.{ended}
use Rattle.demand_contracts_calls.proofs.captured.Goals as goal

pub returns : goal.returns
returns c = rw c.filled.ensures (ended _ _ _)
