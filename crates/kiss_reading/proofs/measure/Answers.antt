use Rattle.std.proofs.Common.{◌+◌, ◌-◌, ◌≤◌, ◌<◌, take, drop, sym, ◌∙◌, arith, length-drop}
use Rattle.std.proofs.Common.{length as list_length}
use Rattle.octets.proofs.Splice.{part_from}
use Rattle.kiss_reading.proofs.Turns.{Goes, goes, stops, measured_turn, plus_none}
use Rattle.kiss_reading.proofs.measure.Goals as goal
use Rattle.kiss_reading.proofs.measure.Goals.{In-Some}

turn : (c : In-Some) → Goes c.loop-step.rest.now c.in-Some.step
turn c = goes _ _ (sym c.in-Some.ensures)

pub loop-step-init : goal.loop-step-init
loop-step-init c = (omega arith, plus_none _)

pub slice_bounds-rest-count : goal.slice_bounds-rest-count
slice_bounds-rest-count c = rw c.taken.ensures (turn (goal.at.slice_bounds-rest-count c).In-Some).wide

pub slice_bounds-rest-start : goal.slice_bounds-rest-start
slice_bounds-rest-start c = rw c.taken.ensures (turn (goal.at.slice_bounds-rest-start c).In-Some).wide

pub overflow_add-length : goal.overflow_add-length
overflow_add-length c =
    let g = turn (goal.at.overflow_add-length c).In-Some in
    omega (arith, g.wide, g.short)

pub loop-step-smaller : goal.loop-step-smaller
loop-step-smaller c =
    let g = turn (goal.at.loop-step-smaller c).In-Some in
    let s = c.loop-step.rest.now in
    let k = c.taken.result in
    let less : list_length (take (list_length s - k) (drop k s)) < list_length s = rw part_from (omega (arith, length-drop k s, g.some, g.short, g.wide)) in
    less

pub loop-step-preserved : goal.loop-step-preserved
loop-step-preserved c =
    let g = turn (goal.at.loop-step-preserved c).In-Some in
    let l = c.loop-step in
    let s = l.rest.now in
    let k = c.taken.result in
    let fits : l.length + c.given-length.result + list_length (take (list_length s - k) (drop k s)) ≤ list_length c.args.behind.now =
    rw part_from (omega (arith, length-drop k s, g.short, g.wide)) in
    (fits, rw (c.taken.ensures, c.given-length.ensures) (measured_turn s c.in-Some.step l.length (sym c.in-Some.ensures) ∙ l.invariant.1))

pub returns : goal.returns
returns c = c.closing.ensures ∙ rw (← stops _ (sym c.in_default.ensures)) c.loop-step.invariant.1
