-- So far the places before this one are written.
use Rattle.std.proofs.Common.{◌≡◌}
use Rattle.octets.specs.Splice.{splice}
use Rattle.flat.specs.Laid.{route_flat}
use Rattle.flat.proofs.laid.put_route.Given as goal

abbrev pub invariant-loop-place : goal.invariant-loop-place
invariant-loop-place l = l.out ≡ splice l.initial.out 16 (route_flat l.fn.route l.place)
