use Rattle.std.proofs.Common.{◌+◌, arith, length-drop}
use Rattle.octets.proofs.Count.{count_end}
use Rattle.escapes.specs.Escape.{special}
use Rattle.escapes.proofs.Marks.{count_turn, count_cut}
use Rattle.escapes.proofs.count_special.Goals as goal

pub loop-block-preserved : goal.loop-block-preserved
loop-block-preserved c =
    let e = c.in-Some.ensures.cases in
    let both = count_cut c.loop-block.rest.now c.in-Some.block.now c.in-Some.behind.now 64 e.0 e.1 in
    (omega (arith, e.2), omega arith)

pub loop-octet-preserved : goal.loop-octet-preserved
loop-octet-preserved c =
    let s = c.loop-block.rest.now in
    let k = c.loop-octet.octet-index in
    grind (arith, count_turn s k (omega arith), length-drop k s, length-drop (k + 1) s)

pub returns : goal.returns
returns c = omega (arith, count_end special c.loop-block.rest.now c.loop-octet.octet-index (omega arith))
