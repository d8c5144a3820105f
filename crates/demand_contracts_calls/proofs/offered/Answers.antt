-- What the function gives is the definition's, of which the demand is proved.
use Rattle.demands_link.proofs.Link.{offered}
use Rattle.demand_contracts_calls.proofs.offered.Goals as goal

pub returns : goal.returns
returns c = record { offered = rw c.step.ensures (offered _ _); value = c.step.ensures }
