-- Each test in the definition's order.
use Rattle.reason.specs.Reason.{first_of}
use Rattle.reason.proofs.first_of.Goals as goal

pub returns-then-leftover : goal.returns-then-leftover
unfolding first_of
returns-then-leftover c = simp c.if-leftover.true

pub returns-then-unmarked : goal.returns-then-unmarked
unfolding first_of
returns-then-unmarked c = simp (c.if-leftover.false, c.if-unmarked.true)

pub returns-then-tail : goal.returns-then-tail
unfolding first_of
returns-then-tail c = simp (c.if-leftover.false, c.if-unmarked.false, c.if-tail.true)

pub returns-then-fixed : goal.returns-then-fixed
unfolding first_of
returns-then-fixed c = simp (c.if-leftover.false, c.if-unmarked.false, c.if-tail.false, c.if-fixed.true)

pub returns : goal.returns
unfolding first_of
returns c = simp (c.if-leftover.false, c.if-unmarked.false, c.if-tail.false, c.if-fixed.false)
