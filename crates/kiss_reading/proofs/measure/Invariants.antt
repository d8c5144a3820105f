-- What is left comes to, after so many octets of data, what the whole comes to.
use Rattle.std.proofs.Common.{◌≡◌, ◌+◌, ◌≤◌, false}
use Rattle.std.proofs.Common.{length as list_length}
use Rattle.octets.specs.Outcome.{measured}
use Rattle.kiss_reading.specs.Read.{heard}
use Rattle.kiss_reading.specs.Steps.{plus}
use Rattle.kiss_reading.proofs.measure.Given as goal

abbrev pub invariant-loop-step : goal.invariant-loop-step
invariant-loop-step l =
    (l.length + list_length l.rest ≤ list_length l.behind) × (plus l.length (measured (heard false l.rest)) ≡ measured (heard false l.behind))

abbrev pub decreases-loop-step : goal.decreases-loop-step
decreases-loop-step l = list_length l.rest
