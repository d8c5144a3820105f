-- Behind the end there is nothing to pass over.
use Rattle.std.proofs.Common.{arith, drop, length-drop}
use Rattle.octets.proofs.First.{first_le}
use Rattle.escapes.specs.Escape.{special}
use Rattle.escapes.proofs.plain_to.Goals as goal

pub returns-then-bytes-from : goal.returns-then-bytes-from
returns-then-bytes-from c =
    omega (arith, first_le special (drop c.args.from c.args.bytes.now), length-drop c.args.from c.args.bytes.now)
