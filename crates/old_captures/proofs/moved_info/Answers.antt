-- By the one test.
use borrow.Author.Tests.{eq-eqb, ne_eqb}
use Rattle.old_captures.proofs.moved_info.Goals as goal

pub returns-then-at-eq0 : goal.returns-then-at-eq0
returns-then-at-eq0 c = simp (eq-eqb _ _ c.if-at-eq0.true)

pub returns : goal.returns
returns c = simp (ne_eqb _ _ c.if-at-eq0.false)
