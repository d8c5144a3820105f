-- So far the first i groups are in their places.
use Rattle.std.proofs.Common.{◌≡◌}
use Rattle.octets.specs.Splice.{splice}
use Rattle.frame.specs.Spell.{groups_of}
use Rattle.decode.specs.Read.{route_at}
use Rattle.respelling.proofs.put_route.Given as goal

abbrev pub invariant-loop-i : goal.invariant-loop-i
invariant-loop-i l = l.out ≡ splice l.initial.out 14 (groups_of (route_at l.bytes 14 l.count) l.count l.i)
