-- One more of that count, and of those offered.
use Rattle.std.proofs.Common.{arith}
use Rattle.link_record.proofs.Laws.{counted_is}
use Rattle.link.proofs.counted_as.Goals as goal

pub overflow_add-result : goal.overflow_add-result
overflow_add-result c = omega (arith, c.args.open.counts, counted_is c.args.open.link)

pub overflow_add-result-in-Some-Repeated : goal.overflow_add-result-in-Some-Repeated
overflow_add-result-in-Some-Repeated c = omega (arith, c.args.open.counts, counted_is c.args.open.link)

pub overflow_add-result-in-Some-Gap : goal.overflow_add-result-in-Some-Gap
overflow_add-result-in-Some-Gap c = omega (arith, c.args.open.counts, counted_is c.args.open.link)

pub overflow_add-result-in-Some-Outside : goal.overflow_add-result-in-Some-Outside
overflow_add-result-in-Some-Outside c = omega (arith, c.args.open.counts, counted_is c.args.open.link)
