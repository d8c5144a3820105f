-- The call comes to the same as from here, with the data that was met stored.
use Rattle.std.proofs.Common.{◌≤◌, length}
use Rattle.kiss_state.specs.State.{in_data, head_of, stream_of}
use Rattle.kiss_stream.specs.Steps.{Reaches}
use Rattle.kiss_stream.proofs.fill.Given as goal

abbrev pub invariant-loop-escaped : goal.invariant-loop-escaped
invariant-loop-escaped l = (l.end ≤ 65535) × Reaches (stream_of l.initial.octets l.h) l.piece (stream_of l.octets (head_of l.end l.h.port in_data l.h.dropped)) l.rest

abbrev pub decreases-loop-escaped : goal.decreases-loop-escaped
decreases-loop-escaped l = length l.rest
