-- By the two octets.
use Rattle.std.proofs.Common.{arith}
use Rattle.kiss_stream.proofs.Laws.{fend-stores, fesc-stores}
use Rattle.kiss_stream.proofs.escape.Goals as goal

pub returns-in-220 : goal.returns-in-220
returns-in-220 c = (omega arith, fend-stores _ (omega arith) c.if-rest.false c.in-220.is)

pub returns-in-221 : goal.returns-in-221
returns-in-221 c = (omega arith, fesc-stores _ (omega arith) c.if-rest.false c.in-221.is)
