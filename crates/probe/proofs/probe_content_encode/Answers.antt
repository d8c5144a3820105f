-- Lent too little; else what the content's writer gives.
use mathlib.Core.Path.{refl, sym, ◌∙◌}
use native.Mathlib.Omega.{arith}
use borrow.Author.Tests.{lt-ltb, le-ltb}
use Rattle.octets.proofs.Outcome.{unwrapped}
use Rattle.octets.proofs.Splice.{splice_one}
use Rattle.probe.proofs.probe_content_encode.Goals as goal

pub returns-then-len-lt1 : goal.returns-then-len-lt1
returns-then-len-lt1 c = record { value = rw (lt-ltb _ _ c.if-len-lt1.true) refl; out_after = rw (lt-ltb _ _ c.if-len-lt1.true) refl; len_after = rw (lt-ltb _ _ c.if-len-lt1.true) refl }

pub returns : goal.returns
returns c =
    let a = c.args in
    record { value = rw (le-ltb _ _ c.if-len-lt1.false) (rw (c.number.ensures, c.encode-written.ensures.value, c.from.ensures, c.content_from-given.ensures) refl); out_after = rw (le-ltb _ _ c.if-len-lt1.false) (c.encode-written.ensures.out_after ∙ rw (c.from.ensures, c.content_from-given.ensures) refl); len_after = rw (le-ltb _ _ c.if-len-lt1.false) (rw (c.unwrap_or.ensures, unwrapped, c.encode-written.ensures.value, c.from.ensures, c.content_from-given.ensures) (sym (splice_one a.len.now 0 _ (omega arith)))) }
