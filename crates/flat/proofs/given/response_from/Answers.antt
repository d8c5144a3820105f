-- By the one test.
use borrow.Author.Tests.{eq-eqb, ne_eqb}
use Rattle.flat.specs.Given.{response_from}
use Rattle.flat.proofs.given.response_from.Goals as goal

pub returns-then-octet-eq0 : goal.returns-then-octet-eq0
unfolding response_from
returns-then-octet-eq0 c = simp (eq-eqb _ _ c.if-octet-eq0.true)

pub returns-else-octet-eq0 : goal.returns-else-octet-eq0
unfolding response_from
returns-else-octet-eq0 c = simp (ne_eqb _ _ c.if-octet-eq0.false)
