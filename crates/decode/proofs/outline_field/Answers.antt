-- Each refusal by its own test, in the definition's order; the content's last.
use Rattle.std.proofs.Common.{◌≡◌, ◌∙◌, refl, sym, ◌+◌, ◌-◌, ◌/◌}
use Rattle.std.specs.Prelude.{drop}
use native.Mathlib.Nat.{sub-zero}
use borrow.Author.Tests.{eq-eqb, ne_eqb, lt-ltb, le-ltb}
use Rattle.parse.specs.Content.{content_of, judged}
use Rattle.decode.specs.Answer.{answer_with}
use Rattle.decode.specs.Outline.{outline_by}
use Rattle.decode.specs.Read.{refused_with, refusal_of, decode_field}
use Rattle.decode.proofs.Whole.{content_outline, judged_ok, judged_err}
use Rattle.octets.proofs.Splice.{part_from}
use Rattle.std.proofs.lemmas.Result.{err_from_is_err_and}
use Rattle.decode.proofs.outline_field.Goals as goal
use Rattle.decode.proofs.outline_field.Goals.{After-judge}

pub returns-then-control-lt14 : goal.returns-then-control-lt14
unfolding decode_field refused_with
returns-then-control-lt14 c = simp (sub-zero, lt-ltb _ _ c.if-control-lt14.true)

pub returns-then-control-bytes : goal.returns-then-control-bytes
unfolding decode_field refused_with
returns-then-control-bytes c = simp (sub-zero, le-ltb _ _ c.if-control-lt14.false, eq-eqb _ _ c.if-control-bytes.true)

pub returns-then-route_count-gt8 : goal.returns-then-route_count-gt8
unfolding decode_field refused_with
returns-then-route_count-gt8 c = simp (sub-zero, le-ltb _ _ c.if-control-lt14.false, ne_eqb _ _ c.if-control-bytes.false, lt-ltb _ _ c.if-route_count-gt8.true)

-- past the tests the content decides
past : (c : After-judge) →
    let a = c.args in
    outline_by a.end (decode_field a.mode a.bytes.now 0 a.end)
    ≡ answer_with (refusal_of (content_of a.mode (drop (a.end + 1) a.bytes.now))) (record { end = a.end; route_count = (a.end + 1 - 14) / 7 })
unfolding decode_field
past c =
    simp (sub-zero, le-ltb _ _ c.if-control-lt14.false, ne_eqb _ _ c.if-control-bytes.false, le-ltb _ _ c.if-route_count-gt8.false)
    (content_outline _ _ _ _ _ _ _)

-- and it is judged from the control octet on
is_judged : (c : After-judge) → judged (content_of c.args.mode (drop (c.args.end + 1) c.args.bytes.now)) ≡ c.judge.result
is_judged c = sym (c.judge.ensures ∙ rw part_from refl)

pub returns-in_err-judge : goal.returns-in_err-judge
returns-in_err-judge c =
    let j = (goal.at.returns-in_err-judge c).After-judge in
    let p = err_from_is_err_and c.from_residual.result c.from_residual.ensures.1 in
    rw (p.1, p.2, past j) (sym (judged_err _ _ _ (is_judged j ∙ c.in_err-judge.was)))

pub returns : goal.returns
returns c =
    let j = (goal.at.returns c).After-judge in
    rw (past j) (sym (judged_ok _ _ (is_judged j ∙ c.in_ok-judge.was)))
