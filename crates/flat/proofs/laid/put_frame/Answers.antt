-- The parts are written one after the other, and together they are the flat frame.
use mathlib.Core.Path.{sym, ◌∙◌}
use Rattle.flat.proofs.Parts.{flat-put, flat_out}
use Rattle.flat.proofs.laid.put_frame.Goals as goal

pub returns-then-out-lt-FRAME : goal.returns-then-out-lt-FRAME
returns-then-out-lt-FRAME c = sym (flat_out _ _ c.if-out-lt-FRAME.true)

pub returns : goal.returns
returns c =
    c.put_rest.ensures
    ∙ rw (c.put_route.ensures, c.put_address-2.ensures, c.put_address.ensures)
    (flat-put _ _ c.if-out-lt-FRAME.false)
