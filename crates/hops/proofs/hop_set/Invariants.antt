-- From place i up the set is that of the places there, lowest first.
use Rattle.std.proofs.Common.{◌≡◌}
use Rattle.std.specs.Prelude.{drop}
use Rattle.hops.specs.Hops.{marks, set_of}
use Rattle.hops.proofs.hop_set.Given as goal

abbrev pub invariant-loop-i : goal.invariant-loop-i
invariant-loop-i l = l.set ≡ set_of (drop l.i (marks l.frame.route l.frame.route_count))
