-- Lent too little; else what printing gives.
use mathlib.Core.Path.{refl, sym, ◌∙◌}
use native.Mathlib.Omega.{arith}
use borrow.Author.Tests.{lt-ltb, le-ltb}
use Rattle.octets.proofs.Splice.{splice_one}
use Rattle.printing.proofs.Laws.{length-unwrapped}
use Rattle.probe.proofs.probe_print.Goals as goal

pub returns-then-len-lt1 : goal.returns-then-len-lt1
returns-then-len-lt1 c = record { value = rw (lt-ltb _ _ c.if-len-lt1.true) refl; out_after = rw (lt-ltb _ _ c.if-len-lt1.true) refl; len_after = rw (lt-ltb _ _ c.if-len-lt1.true) refl }

pub returns : goal.returns
returns c =
    let a = c.args in
    record { value = rw (le-ltb _ _ c.if-len-lt1.false) (rw (c.number.ensures, c.print-printed.ensures.value, c.address_from-address.ensures) refl); out_after = rw (le-ltb _ _ c.if-len-lt1.false) (c.print-printed.ensures.out_after ∙ rw c.address_from-address.ensures refl); len_after = rw (le-ltb _ _ c.if-len-lt1.false) (rw (c.unwrap_or.ensures, c.print-printed.ensures.value, c.address_from-address.ensures, length-unwrapped) (sym (splice_one a.len.now 0 _ (omega arith)))) }
