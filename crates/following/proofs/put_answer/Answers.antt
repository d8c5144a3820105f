use Rattle.std.proofs.Common.{◌≡◌, refl, ◌∙◌}
use Rattle.words.proofs.Room.{cut_none, place_behind}
use Rattle.following.specs.Following.{answer_text}
use Rattle.following.proofs.Laws.{answer_none, answer_some, answer_short}
use Rattle.following.proofs.put_answer.Goals as goal
use Rattle.following.proofs.put_answer.Goals.{After-write_to, then-number-ne0, else-number-ne0}

text : (c : After-write_to) → c.if-number-ne0.page ≡ answer_text c.args.number
text c = elim c.if-number-ne0.branch [
  | then-number-ne0 w ↦
      let some = answer_some c.args.number w.if-number-ne0.true in
      rw (w.page-is, w.put_number.ensures, c.new-page.ensures, ← some) (cut_none _ _ (answer_short c.args.number))
  | else-number-ne0 w ↦ rw (w.page-is, c.new-page.ensures, answer_none _ w.if-number-ne0.false) refl
]

pub returns-clause-out_after : goal.returns-clause-out_after
returns-clause-out_after c = rw (← text (goal.at.returns-clause-out_after c).After-write_to) c.write_to.ensures.out_after

pub returns-clause-value : goal.returns-clause-value
returns-clause-value c =
    c.unwrap_or.ensures ∙ rw (c.write_to.ensures.value, text (goal.at.returns-clause-value c).After-write_to) (place_behind _ _)
