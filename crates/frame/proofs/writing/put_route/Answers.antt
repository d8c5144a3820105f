-- A group more at its place.
use mathlib.Core.Path.{sym, ◌∙◌}
use native.Mathlib.Omega.{arith}
use Rattle.octets.proofs.Splice.{splice_none, splice-length}
use Rattle.placing.proofs.Laws.{put_taken}
use Rattle.frame.proofs.Write.{groups_none, groups-more, entry_each}
use Rattle.frame.proofs.writing.put_route.Goals as goal

pub loop-i-init : goal.loop-i-init
loop-i-init c = sym (rw groups_none (splice_none _ _))

pub loop-i-preserved : goal.loop-i-preserved
loop-i-preserved c =
    let w = c.put.ensures.out_after in
    let t = entry_each _ c.loop-i.i c.requires.1 (omega arith) in
    w ∙ rw (put_taken _ _ _ t, c.loop-i.invariant) (groups-more _ _ _ _ _ (omega arith))

pub shape_of-out : goal.shape_of-out
shape_of-out c = rw c.loop-i.invariant (splice-length _ _ _)
