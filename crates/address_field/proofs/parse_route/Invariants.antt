-- So far the first i places are read and the others unused.
use Rattle.std.proofs.Common.{◌≡◌}
use Rattle.decode.specs.Read.{route_at}
use Rattle.address_field.proofs.parse_route.Given as goal

abbrev pub invariant-loop-i : goal.invariant-loop-i
invariant-loop-i l = l.route ≡ route_at l.bytes l.at l.i
