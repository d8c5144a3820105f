-- One octet more is in its place.
use Rattle.std.proofs.Common.{arith}
use Rattle.octets.proofs.Splice.{splice_turn}
use Rattle.lent_buffer.proofs.put.Goals as goal

pub loop-i-preserved : goal.loop-i-preserved
loop-i-preserved c =
    let l = c.loop-i in
    record { room = l.invariant.room; so_far = rw l.invariant.so_far (splice_turn _ _ _ l.i 0 (omega arith) (omega arith)) }
