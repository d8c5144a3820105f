-- The call is the fold of the step. The invariant: the whole call is the call on what is left, with what was taken before.
use Rattle.std.proofs.Common.{length}
use Rattle.kiss_state.specs.State.{stream_of}
use Rattle.kiss_stream.specs.Steps.{Reaches}
use Rattle.kiss_stream.proofs.feed.Given as goal

abbrev pub invariant-loop-octet : goal.invariant-loop-octet
invariant-loop-octet l = Reaches (stream_of l.initial.octets l.initial.h) l.piece (stream_of l.octets l.h) l.rest

abbrev pub decreases-loop-octet : goal.decreases-loop-octet
decreases-loop-octet l = length l.rest
