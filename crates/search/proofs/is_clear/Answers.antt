use Rattle.std.proofs.Common.{sym, arith}
use Rattle.octets.proofs.Among.{met_turn}
use Rattle.search.specs.Search.{masked}
use Rattle.search.proofs.is_clear.Goals as goal

pub loop-octet-preserved : goal.loop-octet-preserved
loop-octet-preserved c =
    let l = c.loop-octet in
    rw l.invariant (sym (met_turn (masked c.args.mask) c.args.eight.now l.octet-index 0 (omega arith)))
