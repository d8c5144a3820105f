-- The number keeps to four digits.
use Rattle.std.proofs.Common.{◌≤◌}
use Rattle.replay.proofs.words.number.Given as goal

abbrev pub invariant-loop-c : goal.invariant-loop-c
invariant-loop-c l = l.n ≤ 9999
