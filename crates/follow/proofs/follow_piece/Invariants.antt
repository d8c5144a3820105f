-- The measure is how much of the piece is left.
use Prim.Native.Nat.{◌≤◌, ◌-◌}
use lib.ListN.{length}
use Rattle.follow.proofs.follow_piece.Given as goal

abbrev pub invariant-loop-reached : goal.invariant-loop-reached
invariant-loop-reached l = l.reached.at ≤ length l.piece

abbrev pub decreases-loop-reached : goal.decreases-loop-reached
decreases-loop-reached l = length l.piece - l.reached.at
