-- Sixteen octets that stand for themselves are passed over at a time.
use Rattle.std.proofs.Common.{◌≡◌, ◌+◌, length}
use Rattle.octets.specs.First.{first}
use Rattle.escapes.specs.Escape.{special}
use Rattle.escapes.proofs.plain_len.Given as goal

abbrev pub invariant-loop-block : goal.invariant-loop-block
invariant-loop-block l = (l.passed + length l.rest ≡ length l.bytes) × (l.passed + first special l.rest ≡ first special l.bytes)

abbrev pub decreases-loop-block : goal.decreases-loop-block
decreases-loop-block l = length l.rest
