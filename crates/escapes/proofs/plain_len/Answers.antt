use Rattle.std.proofs.Common.{arith, leb-true, sym, ◌∙◌}
use Rattle.octets.proofs.Position.{first_found}
use Rattle.escapes.specs.Escape.{special}
use Rattle.escapes.proofs.Marks.{first_cut}
use Rattle.escapes.proofs.plain_len.Goals as goal

pub loop-block-preserved : goal.loop-block-preserved
loop-block-preserved c =
    let e = c.in-Some.ensures.cases in
    let plain = leb-true _ _ (sym c.sixteen_plain.ensures ∙ c.if-not-sixteen_plain.false) in
    let far = first_cut c.loop-block.rest.now c.in-Some.block.now c.in-Some.behind.now 16 e.0 e.1 e.2 plain in
    (omega (arith, e.2), omega arith)

pub returns : goal.returns
returns c = omega (arith, rw c.first_special.ensures at c.unwrap_or.ensures, first_found special c.loop-block.rest.now)
