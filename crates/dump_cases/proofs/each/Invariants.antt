-- The measure is what is left of the list.
use Rattle.std.proofs.Common.{length}
use Rattle.dump_cases.proofs.each.Given as goal

abbrev pub decreases-loop-n : goal.decreases-loop-n
decreases-loop-n l = length l.rest
