-- Lent too little; else the frame of the two addresses.
use mathlib.Core.Path.{refl, ◌∙◌}
use borrow.Author.Tests.{lt-ltb, le-ltb}
use Rattle.probe.proofs.probe_simple_ui.Goals as goal

pub returns-then-flat-lt-FRAME : goal.returns-then-flat-lt-FRAME
returns-then-flat-lt-FRAME c = record { value = rw (lt-ltb _ _ c.if-flat-lt-FRAME.true) refl; flat_after = rw (lt-ltb _ _ c.if-flat-lt-FRAME.true) refl }

pub returns : goal.returns
returns c =
    record {
      value = rw (le-ltb _ _ c.if-flat-lt-FRAME.false) refl;
      flat_after = rw (le-ltb _ _ c.if-flat-lt-FRAME.false) (c.put_frame.ensures
          ∙ rw (c.new_simple_ui_frame-frame.ensures, c.address_from-to.ensures, c.address_from-from.ensures) refl);
    }
