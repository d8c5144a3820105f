-- By the first octet, and at any other than a DB by how many stand for themselves.
use Rattle.std.proofs.Common.{ℕ, List, sym, ◌∙◌, ap}
use Rattle.octets.specs.First.{first}
use borrow.Author.Tests.{ne_eqb}
use Rattle.escapes.specs.Escape.{fesc, special}
use Rattle.kiss_reading.proofs.Turns.{run_none, run_some}
use Rattle.kiss_reading.proofs.next_step.Goals as goal

pub returns-then-run-eq0 : goal.returns-then-run-eq0
returns-then-run-eq0 c =
    let s = c.in_ok-first.ensures.cases.0 in
    rw s (sym (run_none _ _ (ne_eqb _ fesc c.if-first.false) (ap (λ (l : List ℕ). first special l) (sym s) ∙ sym c.plain_len-run.ensures ∙ c.if-run-eq0.true)))

pub returns : goal.returns
returns c =
    let s = c.in_ok-first.ensures.cases.0 in
    rw s (sym (run_some _ _ _ (ne_eqb _ fesc c.if-first.false) (c.plain_len-run.ensures ∙ ap (λ (l : List ℕ). first special l) s) c.if-run-eq0.false))
