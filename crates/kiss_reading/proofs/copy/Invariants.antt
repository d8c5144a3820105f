-- What is still to be written, put where the writing has come to, is the whole, and ends it at the length.
use Rattle.std.proofs.Common.{◌≡◌, false, length}
use Rattle.octets.specs.Outcome.{octets_of}
use Rattle.octets.specs.Splice.{splice}
use Rattle.kiss_reading.specs.Read.{heard}
use Rattle.kiss_reading.proofs.Turns.{Left}
use Rattle.kiss_reading.proofs.copy.Given as goal

abbrev pub invariant-loop-to : goal.invariant-loop-to
invariant-loop-to l = (length l.out ≡ length l.initial.out) × Left l.rest l.out l.to l.length (splice l.initial.out 0 (octets_of (heard false l.behind)))

abbrev pub decreases-loop-to : goal.decreases-loop-to
decreases-loop-to l = length l.rest
