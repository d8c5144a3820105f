use Rattle.std.proofs.Common.{arith}
use Rattle.kiss_stream.proofs.Laws.{filled_none, filled_more}
use Rattle.kiss_stream.proofs.fill_plain.Goals as goal

pub loop-octet-init : goal.loop-octet-init
loop-octet-init c = filled_none _ _ _ c.requires

pub loop-octet-preserved : goal.loop-octet-preserved
loop-octet-preserved c =
    let l = c.loop-octet in
    filled_more _ _ _ l.octets l.end l.octet-index l.invariant (omega arith) c.if-octet.false c.if-octet-2.false (omega arith)
