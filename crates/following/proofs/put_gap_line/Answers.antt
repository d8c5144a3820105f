use Rattle.std.proofs.Common.{◌≡◌, ◌∙◌}
use Rattle.words.proofs.Room.{cut_none, place_behind}
use Rattle.following.specs.Following.{gap_line}
use Rattle.following.proofs.Laws.{gap_short}
use Rattle.following.proofs.put_gap_line.Goals as goal
use Rattle.following.proofs.put_gap_line.Goals.{After-write_to}

text : (c : After-write_to) → c.put_number.new.self ≡ gap_line c.args.place c.args.sender
text c = rw (c.put_number.ensures, c.new-page.ensures, c.from.ensures) (cut_none _ _ (gap_short c.args.place c.args.sender))

pub returns-clause-out_after : goal.returns-clause-out_after
returns-clause-out_after c = rw (← text (goal.at.returns-clause-out_after c).After-write_to) c.write_to.ensures.out_after

pub returns-clause-value : goal.returns-clause-value
returns-clause-value c =
    c.unwrap_or.ensures ∙ rw (c.write_to.ensures.value, text (goal.at.returns-clause-value c).After-write_to) (place_behind _ _)
