-- From place i up the set is that of the marks there, lowest first.
use Rattle.std.proofs.Common.{◌≡◌}
use Rattle.std.specs.Prelude.{drop}
use Rattle.decode.specs.Read.{route_at}
use Rattle.hops.specs.Hops.{marks, set_of}
use Rattle.relay.proofs.hop_set_at.Given as goal

abbrev pub invariant-loop-i : goal.invariant-loop-i
invariant-loop-i l = l.set ≡ set_of (drop l.i (marks (route_at l.bytes l.at l.n) l.n))
