-- `print` refuses what it cannot take, and says how long the text is that `put_text` wrote.
use mathlib.Core.Path.{sym, ◌∙◌}
use borrow.Author.Tests.{lt-ltb, le-ltb}
use Rattle.printing.specs.Print.{printed, printed_into}
use Rattle.printing.proofs.print.Goals as goal

pub returns-then-not-is_encodable : goal.returns-then-not-is_encodable
unfolding printed printed_into
returns-then-not-is_encodable c =
    let e = sym c.is_encodable.ensures ∙ c.if-not-is_encodable.true in
    record { value = simp e; out_after = simp e }

pub returns-then-room-length : goal.returns-then-room-length
unfolding printed printed_into
returns-then-room-length c =
    let e = sym c.is_encodable.ensures ∙ c.if-not-is_encodable.false in
    record { value = simp (e, ← c.put_text-length.ensures.value, lt-ltb _ _ c.if-room-length.true); out_after = simp e c.put_text-length.ensures.out_after }

pub returns : goal.returns
unfolding printed printed_into
returns c =
    let e = sym c.is_encodable.ensures ∙ c.if-not-is_encodable.false in
    record { value = simp (e, ← c.put_text-length.ensures.value, le-ltb _ _ c.if-room-length.false); out_after = simp e c.put_text-length.ensures.out_after }
