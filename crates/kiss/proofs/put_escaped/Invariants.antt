-- What is left to be written, put where the writing has come to, is the whole.
use Rattle.std.proofs.Common.{◌≡◌, ◌+◌, length}
use Rattle.octets.specs.Splice.{splice}
use Rattle.escapes.specs.Escape.{escaped}
use Rattle.kiss.proofs.Laws.{Left}
use Rattle.kiss.proofs.put_escaped.Given as goal

abbrev pub invariant-loop-rest : goal.invariant-loop-rest
invariant-loop-rest l = (length l.out ≡ length l.initial.out) × Left l.rest l.out (l.at + length (escaped l.info)) l.to (splice l.initial.out l.at (escaped l.info))

abbrev pub decreases-loop-rest : goal.decreases-loop-rest
decreases-loop-rest l = length l.rest
