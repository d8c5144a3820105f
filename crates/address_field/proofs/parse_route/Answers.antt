use Rattle.std.proofs.Common.{arith}
use Rattle.decode.specs.Read.{entry_at, route_at, place_at}
use Rattle.decode.proofs.Read.{route_next}
use Rattle.address_field.proofs.parse_route.Goals as goal

pub loop-i-init : goal.loop-i-init
unfolding route_at place_at
loop-i-init c = simp c.default-route.ensures

pub loop-i-preserved : goal.loop-i-preserved
unfolding entry_at
loop-i-preserved c =
    simp (c.parse_group-parsed.ensures, c.loop-i.invariant) (route_next c.args.bytes.now c.args.at c.loop-i.i (omega arith))
