use Rattle.std.proofs.Common.{arith}
use Rattle.octets.proofs.Count.{count_end}
use Rattle.escapes.specs.Escape.{special}
use Rattle.escapes.proofs.Marks.{count_turn}
use Rattle.escapes.proofs.count_block.Goals as goal

pub loop-octet-preserved : goal.loop-octet-preserved
loop-octet-preserved c = grind (arith, count_turn c.args.block.now c.loop-octet.octet-index (omega arith))

pub returns-clause-value : goal.returns-clause-value
returns-clause-value c = omega (arith, count_end special c.args.block.now c.loop-octet.octet-index (omega arith))
