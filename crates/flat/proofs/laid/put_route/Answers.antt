use Rattle.std.proofs.Common.{◌≡◌, ◌∙◌, ◌<◌, length, sym, arith, rules}
use Rattle.octets.proofs.Splice.{splice_none}
use Rattle.flat.specs.Laid.{route_flat}
use Rattle.flat.proofs.Parts.{route-more}
use Rattle.flat.proofs.laid.put_route.Goals as goal

pub loop-place-init : goal.loop-place-init
unfolding route_flat
loop-place-init c = sym (splice_none _ _)

pub loop-place-preserved : goal.loop-place-preserved
loop-place-preserved c =
    let eight : length c.args.route ≡ 8 = search rules in
    let here : c.loop-place.place < 8 = omega arith in
    c.put_entry.ensures ∙ rw c.loop-place.invariant (route-more c.args.out.now 16 c.args.route c.loop-place.place (omega arith))
