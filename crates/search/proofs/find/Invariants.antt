-- Eight octets without such a bit are passed over at a time.
use Rattle.std.proofs.Common.{◌≡◌, ◌+◌, length}
use Rattle.octets.specs.First.{first}
use Rattle.search.specs.Search.{masked}
use Rattle.search.proofs.find.Given as goal

abbrev pub invariant-loop-eight : goal.invariant-loop-eight
invariant-loop-eight l = (l.passed + length l.rest ≡ length l.bytes) × (l.passed + first (masked l.mask) l.rest ≡ first (masked l.mask) l.bytes)

abbrev pub decreases-loop-eight : goal.decreases-loop-eight
decreases-loop-eight l = length l.rest
