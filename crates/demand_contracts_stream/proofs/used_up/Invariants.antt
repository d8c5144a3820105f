-- Each call takes some of what is left.
use Prim.Native.Nat.{◌-◌}
use lib.ListN.{length, drop}
use Rattle.kiss_state.specs.State.{stream_of}
use Rattle.demands_stream.specs.Run.{line_of}
use Rattle.demand_contracts_stream.proofs.Laws.{Left}
use Rattle.demand_contracts_stream.proofs.used_up.Given as goal

abbrev pub invariant-loop-i : goal.invariant-loop-i
invariant-loop-i l = Left (line_of (stream_of l.initial.octets l.initial.h) (drop l.initial.i l.piece)) l.initial.packets l.octets l.h l.piece l.packets l.i

abbrev pub decreases-loop-i : goal.decreases-loop-i
decreases-loop-i l = length l.piece - l.i
