-- One search, for the first octet that is not null.
use mathlib.Core.Path.{◌≡◌, ◌∙◌}
use borrow.Author.Tests.{eq-eqb, ne_eqb}
use Rattle.decode.specs.Read.{start_of}
use Rattle.decode.proofs.Read.{start-masked}
use borrow.Author.Rules.{rules}
use Rattle.decode.proofs.null_error.Goals as goal
use Rattle.decode.proofs.null_error.Goals.{After-find-nulls}

start : (c : After-find-nulls) → c.find-nulls.result ≡ start_of c.args.bytes.now
start c = c.find-nulls.ensures.value ∙ start-masked _ (λ k. search rules)

pub returns-then-nulls-bytes : goal.returns-then-nulls-bytes
returns-then-nulls-bytes c = simp (← start (goal.at.returns-then-nulls-bytes c).After-find-nulls, eq-eqb _ _ c.if-nulls-bytes.true)

pub returns : goal.returns
returns c = simp (← start (goal.at.returns c).After-find-nulls, ne_eqb _ _ c.if-nulls-bytes.false)
