use Rattle.std.proofs.Common.{◌≡◌, length, sym, ◌∙◌, add-one, arith}
use Rattle.captures.specs.Capture.{filled, filled_all}
use Rattle.captures.proofs.Turns.{after_none, after_next, after-all}
use Rattle.captures.proofs.fill.Goals as goal

pub loop-capture-init : goal.loop-capture-init
loop-capture-init c = sym (after_none (filled c.args.mode c.args.input.now) c.args.records.now)

-- A turn stores what is made of the record that it finds.
pub loop-capture-preserved : goal.loop-capture-preserved
loop-capture-preserved c =
    let f = filled c.args.mode c.args.input.now in
    rw (c.filled.ensures, add-one, c.loop-capture.invariant) (after_next f c.loop-capture.capture-index c.args.records.now _)

pub returns : goal.returns
unfolding filled_all
returns c =
    let e : c.loop-capture.capture-index ≡ length c.args.records.now = omega arith in
    c.loop-capture.invariant ∙ rw e (after-all (filled c.args.mode c.args.input.now) c.args.records.now)
