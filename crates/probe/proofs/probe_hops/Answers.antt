-- Lent too little; else three stores, one after the other.
use mathlib.Core.Path.{refl}
use native.Mathlib.Omega.{arith}
use borrow.Author.Tests.{lt-ltb, le-ltb}
use lib.ListN.{length-set}
use Rattle.octets.proofs.Splice.{splice-stores}
use Rattle.flat.specs.Given.{frame_from}
use Rattle.probe.specs.Calls.{hops_of}
use Rattle.probe.proofs.probe_hops.Goals as goal

pub returns-then-numbers-lt-HOPS : goal.returns-then-numbers-lt-HOPS
returns-then-numbers-lt-HOPS c = record { value = rw (lt-ltb _ _ c.if-numbers-lt-HOPS.true) refl; numbers_after = rw (lt-ltb _ _ c.if-numbers-lt-HOPS.true) refl }

pub bounds-numbers-1 : goal.bounds-numbers-1
bounds-numbers-1 c = simp length-set (omega arith)

pub bounds-numbers-2 : goal.bounds-numbers-2
bounds-numbers-2 c = simp length-set (omega arith)

pub returns : goal.returns
returns c =
    let a = c.args in
    record {
      value = rw (le-ltb _ _ c.if-numbers-lt-HOPS.false) refl;
      numbers_after = rw (le-ltb _ _ c.if-numbers-lt-HOPS.false) (rw (c.due_place-due.ensures, c.hops_used-used.ensures, c.hop_set-set.ensures, c.frame_from-frame.ensures)
          (splice-stores (hops_of (frame_from a.flat.now)) a.numbers.now 0 (omega arith)));
    }
