-- The route's length, then the addresses, then the content; the room needed is the length of what the frame spells.
use mathlib.Core.Path.{◌≡◌, refl, sym, ◌∙◌}
use native.Mathlib.Omega.{arith}
use borrow.Author.Tests.{lt-ltb, le-ltb}
use Rattle.content.proofs.Laws.{front-short}
use Rattle.frame.specs.Write.{write_answer}
use Rattle.std.specs.Prelude.{Ok}
use Rattle.frame.proofs.Write.{through, content_through, content_decides}
use borrow.Author.Rules.{rules}
use Rattle.frame.proofs.writing.judge.Goals as goal
use Rattle.frame.proofs.writing.judge.Goals.{After-judge}

pub returns-then-count-gt8 : goal.returns-then-count-gt8
unfolding write_answer
returns-then-count-gt8 c = simp (lt-ltb _ _ c.if-count-gt8.true)

pub returns-then-not-frame_encodable : goal.returns-then-not-frame_encodable
unfolding write_answer
returns-then-not-frame_encodable c = simp (le-ltb _ _ c.if-count-gt8.false, sym c.frame_encodable.ensures ∙ c.if-not-frame_encodable.true)

pub overflow_add-head-2 : goal.overflow_add-head-2
overflow_add-head-2 c =
    let a = c.args in
    omega (arith, c.front_len.ensures, front-short a.mode a.frame.content)

-- past the tests of the route and of the addresses the content's answer is the frame's
decided : (c : After-judge) → let a = c.args in through c.judge.result ≡ write_answer a.mode a.frame a.info.now a.room
decided c =
    rw c.judge.ensures
    (content_through _ _ _ _ _
    ∙ content_decides _ _ _ _ _ c.if-count-gt8.false (sym c.frame_encodable.ensures ∙ c.if-not-frame_encodable.false) (rw c.front_len.ensures refl))

pub returns-in_err-judge : goal.returns-in_err-judge
unfolding through
returns-in_err-judge c =
    let same : c.from_residual.result ≡ through c.judge.result = search rules in
    same ∙ decided (goal.at.returns-in_err-judge c).After-judge

pub returns : goal.returns
unfolding through
returns c =
    let same : Ok tt ≡ through c.judge.result = search rules in
    same ∙ decided (goal.at.returns c).After-judge
