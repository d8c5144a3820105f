-- The call's number and frame are the definitions', of which the request is proved.
use mathlib.Core.Path.{refl}
use Rattle.demands.proofs.Relay.{numbered_is, relaying_as, refused_relay_as, relayed_as_is}
use borrow.Author.Rules.{rules}
use Rattle.demand_contracts_calls.proofs.relayed.Goals as goal

pub returns-clause-first_row : goal.returns-clause-first_row
returns-clause-first_row c = rw (c.ax25_relay.ensures.value, numbered_is) ((relaying_as c.args.callsign.now c.args.ssid c.args.frame.now _).0 refl)

pub returns-clause-frame_unchanged : goal.returns-clause-frame_unchanged
returns-clause-frame_unchanged c =
    let e = c.ax25_relay.ensures in
    rw (e.value, numbered_is, e.frame_after) (λ n. refused_relay_as c.args.callsign.now c.args.ssid c.args.frame.now n)

pub returns-clause-relayed : goal.returns-clause-relayed
returns-clause-relayed c =
    let e = c.ax25_relay.ensures in
    rw (e.value, numbered_is, e.frame_after) (λ z. relayed_as_is c.args.callsign.now c.args.ssid c.args.frame.now z (λ j. search rules))
