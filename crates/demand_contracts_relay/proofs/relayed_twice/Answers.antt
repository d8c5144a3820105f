-- The second relay is of what the first left.
use Rattle.demands.proofs.Relay.{relayed-again}
use Rattle.demand_contracts_relay.proofs.relayed_twice.Goals as goal

pub returns-clause-again : goal.returns-clause-again
returns-clause-again c =
    rw (c.relay-2.ensures.value, c.relay.ensures.bytes_after) (λ z. relayed-again c.args.own c.args.frame.now z)
