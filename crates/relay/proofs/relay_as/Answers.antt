-- A callsign of more than six octets is refused; else it is the station's.
use mathlib.Core.Path.{refl, ◌∙◌}
use borrow.Author.Tests.{lt-ltb, le-ltb}
use Rattle.relay.specs.Relay.{relayed, relay_answer_as, relayed_as}
use Rattle.relay.proofs.relay_as.Goals as goal

pub returns-then-callsign-gt6 : goal.returns-then-callsign-gt6
unfolding relay_answer_as relayed_as
returns-then-callsign-gt6 c =
    let e = lt-ltb _ _ c.if-callsign-gt6.true in
    record { value = rw e refl; bytes_after = rw e refl }

pub returns : goal.returns
unfolding relayed relay_answer_as relayed_as
returns c =
    let e = le-ltb _ _ c.if-callsign-gt6.false in
    let own = c.station_of-own.ensures in
    record { value = rw e (c.relay.ensures.value ∙ rw own refl); bytes_after = rw e (c.relay.ensures.bytes_after ∙ rw own refl) }
