-- By the law of a line in two pieces.
use mathlib.Core.Path.{sym}
use native.Mathlib.Omega.{arith}
use lib.Seq.{length-take-le}
use Rattle.demand_contracts_stream.proofs.Laws.{rest_all, two_few, two_parts}
use Rattle.demand_contracts_stream.proofs.in_two.Goals as goal

pub slice_bounds-used_up-end : goal.slice_bounds-used_up-end
slice_bounds-used_up-end c = sym (length-take-le _ _ (omega arith))

pub overflow_add-result : goal.overflow_add-result
overflow_add-result c =
    let a = c.args in
    let f = c.used_up-first in
    let g = c.used_up-second in
    let rest = rest_all a.line.now a.cut in
    let g-is = rw rest at g.ensures in
    omega (arith, two_few a.octets.now a.head a.line.now a.cut f.result g.result f.new.octets g.new.octets f.ensures.0 f.ensures.1 f.ensures.2 g-is.0 g-is.1 g-is.2)

pub returns : goal.returns
returns c =
    let a = c.args in
    let f = c.used_up-first in
    let g = c.used_up-second in
    let rest = rest_all a.line.now a.cut in
    let g-is = rw rest at g.ensures in
    two_parts a.octets.now a.head a.line.now a.cut f.result g.result f.new.octets g.new.octets f.ensures.0 f.ensures.1 f.ensures.2 g-is.0 g-is.1 g-is.2
