use Rattle.std.proofs.Common.{◌-◌, ◌<◌, length, take, drop, refl, ap, sym, ◌∙◌, arith, length-drop}
use Rattle.octets.proofs.Splice.{splice-length, part_from}
use Rattle.kiss_reading.proofs.Turns.{goes, left_room, left_turn, left_some, left_done}
use Rattle.kiss_reading.proofs.copy.Goals as goal

pub loop-to-init : goal.loop-to-init
loop-to-init c =
    (refl, record { good = c.requires.good; counts = omega (arith, c.requires.counted); room = omega (arith, c.requires.counted, c.requires.room); is = refl })

pub good_step-step-requires : goal.good_step-step-requires
good_step-step-requires c = left_some _ _ _ _ _ c.loop-to.invariant.1 c.loop-to-test.true

pub put_step-requires : goal.put_step-requires
put_step-requires c =
    let e = sym c.good_step-step.ensures in
    record {
      taken = (goes _ _ e).wide;
      room = left_room _ _ _ _ _ c.loop-to.invariant.1 c.good_step-step.result e;
    }

pub slice_bounds-rest-count : goal.slice_bounds-rest-count
slice_bounds-rest-count c = rw c.taken.ensures (goes _ _ (sym c.good_step-step.ensures)).wide

pub slice_bounds-rest-start : goal.slice_bounds-rest-start
slice_bounds-rest-start c = rw c.taken.ensures (goes _ _ (sym c.good_step-step.ensures)).wide

pub overflow_add-to : goal.overflow_add-to
overflow_add-to c =
    let e = sym c.good_step-step.ensures in
    omega (arith, (goes _ _ e).long, left_room _ _ _ _ _ c.loop-to.invariant.1 c.good_step-step.result e)

pub loop-to-smaller : goal.loop-to-smaller
loop-to-smaller c =
    let g = goes c.loop-to.rest.now c.good_step-step.result (sym c.good_step-step.ensures) in
    let s = c.loop-to.rest.now in
    let k = c.taken.result in
    let less : length (take (length s - k) (drop k s)) < length s = rw part_from (omega (arith, length-drop k s, g.some, g.short, g.wide)) in
    less

pub loop-to-preserved : goal.loop-to-preserved
loop-to-preserved c =
    let l = c.loop-to in (
      ap length c.put_step.ensures ∙ splice-length _ _ _ ∙ l.invariant.0,
      rw (c.taken.ensures, c.given-to.ensures) (left_turn _ _ _ _ _ l.invariant.1 c.good_step-step.result (sym c.good_step-step.ensures) c.put_step.new.out c.put_step.ensures),
    )

pub returns : goal.returns
returns c = left_done _ _ _ _ _ c.loop-to.invariant.1 c.loop-to-test.false
