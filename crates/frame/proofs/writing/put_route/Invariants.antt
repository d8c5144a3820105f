-- So far the first i groups are in their places.
use Rattle.std.proofs.Common.{◌≡◌}
use lib.ListN.{length}
use Rattle.octets.specs.Splice.{splice}
use Rattle.frame.specs.Spell.{groups_of}
use Rattle.frame.proofs.writing.put_route.Given as goal

abbrev pub invariant-loop-i : goal.invariant-loop-i
invariant-loop-i l = l.out ≡ splice l.initial.out l.at (groups_of l.route (length l.route) l.i)
