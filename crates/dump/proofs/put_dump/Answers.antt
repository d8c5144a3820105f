-- Over 4,096 octets the answer alone; else the frame, or why there is none.
use Rattle.std.proofs.Common.{◌∙◌, refl, sym, ap}
use borrow.Author.Tests.{lt-ltb, le-ltb}
use Rattle.control.specs.declared.Mode.TheVariants.{Short}
use Rattle.decode.specs.Read.{decode}
use Rattle.decode.specs.declared.Decoded.{Decoded}
use Rattle.decode.proofs.Read.{told_ok}
use Rattle.grammar.proofs.Plain.{inside}
use Rattle.dump.specs.Dump.{decoded_text, dump_text}
use Rattle.dump.proofs.put_dump.Goals as goal

pub returns-then-input-gt4096 : goal.returns-then-input-gt4096
unfolding dump_text
returns-then-input-gt4096 c = rw (lt-ltb _ _ c.if-input-gt4096.true) c.put_number.ensures

pub put_frame-requires : goal.put_frame-requires
put_frame-requires c =
    let t = told_ok (decode Short c.args.input.now).answer _ _ (sym c.from_bytes.ensures ∙ c.in-Ok.is) in
    let n = ap (λ (d : Decoded). d.frame.route_count) t.1 in
    rw (← n) (inside Short c.args.input.now (rw t.0 refl)).few

pub returns-in-Ok : goal.returns-in-Ok
unfolding dump_text decoded_text
returns-in-Ok c =
    rw (le-ltb _ _ c.if-input-gt4096.false, ← c.from_bytes.ensures, c.in-Ok.is, ← c.is_canonical-canonical.ensures, ← c.reason_of-reason.ensures) c.put_frame.ensures

pub returns-in-Err : goal.returns-in-Err
unfolding dump_text decoded_text
returns-in-Err c =
    rw (le-ltb _ _ c.if-input-gt4096.false, ← c.from_bytes.ensures, c.in-Err.is) c.put_refusal.ensures
