-- The control octet's tests are those of the definition, in its order.
use mathlib.Core.Path.{◌≡◌, sym}
use lib.ListN.{get_or}
use Rattle.parse.specs.Numbers.{is_i, is_s}
use Rattle.content_as_written.specs.AsWritten.{has_tail}
use Rattle.content_as_written.proofs.has_tail.Goals as goal
use Rattle.content_as_written.proofs.has_tail.Goals.{After-is_i, After-is_s}

i-test : (c : After-is_i) → is_i (get_or c.args.bytes.now 0 0) ≡ c.is_i.result
i-test c = rw (← c.octet-control.ensures) (sym c.is_i.ensures)

s-test : (c : After-is_s) → is_s (get_or c.args.bytes.now 0 0) ≡ c.is_s.result
s-test c = rw (← c.octet-control.ensures) (sym c.is_s.ensures)

pub returns-then-is_i : goal.returns-then-is_i
unfolding has_tail
returns-then-is_i c = simp (i-test (goal.at.returns-then-is_i c).After-is_i, c.if-is_i.true)

pub returns-then-is_s : goal.returns-then-is_s
unfolding has_tail
returns-then-is_s c = simp (i-test (goal.at.returns-then-is_s c).After-is_i, c.if-is_i.false, s-test (goal.at.returns-then-is_s c).After-is_s, c.if-is_s.true, c.controls.ensures)

pub returns : goal.returns
unfolding has_tail
returns c = simp (i-test (goal.at.returns c).After-is_i, c.if-is_i.false, s-test (goal.at.returns c).After-is_s, c.if-is_s.false, c.u_has_tail.ensures, c.octet-control.ensures)
