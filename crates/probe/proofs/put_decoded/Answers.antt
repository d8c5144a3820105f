-- Lent too little, either way; else the places are written, and the frame where there is one.
use mathlib.Core.Path.{refl}
use native.Mathlib.Omega.{arith}
use borrow.Author.Tests.{lt-ltb, le-ltb}
use lib.ListN.{length}
use Rattle.probe.proofs.put_decoded.Goals as goal

pub returns-then-flat-lt-FRAME : goal.returns-then-flat-lt-FRAME
returns-then-flat-lt-FRAME c = record { value = rw (lt-ltb _ _ c.if-flat-lt-FRAME.true) refl; flat_after = rw (lt-ltb _ _ c.if-flat-lt-FRAME.true) refl; places_after = rw (lt-ltb _ _ c.if-flat-lt-FRAME.true) refl }

pub returns-then-places-lt-PLACES : goal.returns-then-places-lt-PLACES
returns-then-places-lt-PLACES c =
    let a = c.args in
    record { value = rw (le-ltb _ _ c.if-flat-lt-FRAME.false, lt-ltb (length a.places.now) 5 (omega arith)) refl; flat_after = rw (le-ltb _ _ c.if-flat-lt-FRAME.false, lt-ltb (length a.places.now) 5 (omega arith)) refl; places_after = rw (le-ltb _ _ c.if-flat-lt-FRAME.false, lt-ltb (length a.places.now) 5 (omega arith)) refl }
