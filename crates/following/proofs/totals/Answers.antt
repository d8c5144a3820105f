-- The page holds all of the text, and is written as a whole.
use Rattle.std.proofs.Common.{◌≡◌, ◌∙◌}
use Rattle.std.proofs.lemmas.List.{append_assoc}
use Rattle.octets.proofs.Splice.{splice-length}
use Rattle.words.proofs.Room.{cut_then, cut_none, place_behind, behind-most}
use Rattle.words.specs.Room.{cut}
use Rattle.following.specs.Following.{first_totals, last_totals, totals_text}
use Rattle.following.proofs.Laws.{totals-short}
use Rattle.following.proofs.totals.Goals as goal
use Rattle.following.proofs.totals.Goals.{After-write_to}

all : (c : After-write_to) → c.put_number-6.new.self ≡ cut 96 (totals_text c.args.link c.args.dropped)
unfolding first_totals last_totals
all c =
    rw (c.put_number-6.ensures, c.put_number-5.ensures, c.put_number-4.ensures, c.put_number-3.ensures, c.put_number-2.ensures, c.put_number.ensures, c.new-page.ensures) (simp (cut_then, append_assoc))

text : (c : After-write_to) → c.put_number-6.new.self ≡ totals_text c.args.link c.args.dropped
text c = all c ∙ cut_none _ _ (totals-short c.args.link c.args.dropped)

pub returns-clause-out_after : goal.returns-clause-out_after
returns-clause-out_after c = rw (← text (goal.at.returns-clause-out_after c).After-write_to) c.write_to.ensures.out_after

pub returns-clause-value : goal.returns-clause-value
returns-clause-value c =
    c.unwrap_or.ensures ∙ rw (c.write_to.ensures.value, text (goal.at.returns-clause-value c).After-write_to) (place_behind _ _)

pub returns-clause-upper_bound : goal.returns-clause-upper_bound
returns-clause-upper_bound c =
    rw (c.write_to.ensures.out_after, splice-length, c.unwrap_or.ensures, c.write_to.ensures.value, place_behind) (behind-most _ _)
