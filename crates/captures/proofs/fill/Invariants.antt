-- The records are a row, of which so many are filled as there were turns. Of `filled` nothing is known but its contract.
use Rattle.std.proofs.Common.{◌≡◌}
use Rattle.captures.specs.Capture.{filled}
use Rattle.captures.proofs.Turns.{after}
use Rattle.captures.proofs.fill.Given as goal

abbrev pub invariant-loop-capture : goal.invariant-loop-capture
invariant-loop-capture l = l.records ≡ after (filled l.mode l.input) l.capture-index l.initial.records
