use Rattle.std.proofs.Common.{sym, arith}
use Rattle.octets.proofs.Among.{met_turn}
use Rattle.escapes.specs.Escape.{special}
use Rattle.escapes.proofs.sixteen_plain.Goals as goal

pub loop-octet-preserved : goal.loop-octet-preserved
loop-octet-preserved c =
    let l = c.loop-octet in
    rw (l.invariant, c.is_special-found.ensures) (sym (met_turn special c.args.block.now l.octet-index 0 (omega arith)))
