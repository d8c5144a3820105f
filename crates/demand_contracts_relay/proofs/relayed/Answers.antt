-- The answer and the frame are the definitions', of which the request is proved.
use mathlib.Core.Path.{refl}
use Rattle.demands.proofs.Relay.{relaying, refused_relay, relayed_is}
use borrow.Author.Rules.{rules}
use Rattle.demand_contracts_relay.proofs.relayed.Goals as goal

pub returns-clause-first_row : goal.returns-clause-first_row
returns-clause-first_row c = rw c.relay.ensures.value ((relaying c.args.own c.args.frame.now _).0 refl)

pub returns-clause-frame_unchanged : goal.returns-clause-frame_unchanged
returns-clause-frame_unchanged c = rw (c.relay.ensures.value, c.relay.ensures.bytes_after) (λ n. refused_relay c.args.own c.args.frame.now n)

pub returns-clause-relayed : goal.returns-clause-relayed
returns-clause-relayed c =
    rw (c.relay.ensures.value, c.relay.ensures.bytes_after) (λ z. relayed_is c.args.own c.args.frame.now z (λ j. search rules))
