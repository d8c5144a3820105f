use Prim.Native.Nat.{◌+◌}
use mathlib.Core.Path.{◌≡◌, sym, ◌∙◌}
use native.Mathlib.Omega.{arith}
use lib.Dec.{eqb}
use Rattle.octets.proofs.Splice.{splice_none, splice-length}
use Rattle.frame.proofs.Write.{groups_none, groups-more}
use Rattle.respelling.proofs.Laws.{repeater-again}
use Rattle.respelling.proofs.put_route.Goals as goal

pub loop-i-init : goal.loop-i-init
loop-i-init c = sym (rw groups_none (splice_none _ _))

pub loop-i-preserved : goal.loop-i-preserved
loop-i-preserved c =
    let w = c.respell.ensures in
    let m = c.mark_set-mark.ensures in
    let g = repeater-again c.args.bytes.now 14 c.args.count c.loop-i.i (eqb (c.loop-i.i + 1) c.args.count) (omega arith) c.requires.0 c.requires.1 in
    w ∙ rw (m, g, c.loop-i.invariant) (groups-more _ _ _ _ _ (omega arith))

pub shape_of-out : goal.shape_of-out
shape_of-out c = rw c.loop-i.invariant (splice-length _ _ _)

pub returns : goal.returns
returns c =
    let e : c.loop-i.i ≡ c.args.count = omega arith in
    rw e at c.loop-i.invariant
