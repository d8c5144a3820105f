-- Lent too little; else the frame that was read.
use mathlib.Core.Path.{refl, ◌∙◌}
use borrow.Author.Tests.{lt-ltb, le-ltb}
use Rattle.probe.proofs.probe_again.Goals as goal

pub returns-then-flat-lt-FRAME : goal.returns-then-flat-lt-FRAME
returns-then-flat-lt-FRAME c = record { value = rw (lt-ltb _ _ c.if-flat-lt-FRAME.true) refl; flat_after = rw (lt-ltb _ _ c.if-flat-lt-FRAME.true) refl }

pub returns : goal.returns
returns c = record { value = rw (le-ltb _ _ c.if-flat-lt-FRAME.false) refl; flat_after = rw (le-ltb _ _ c.if-flat-lt-FRAME.false) (c.put_frame.ensures ∙ rw c.frame_from-frame.ensures refl) }
