-- The number of what is refused, or the frame followed.
use Rattle.std.proofs.Common.{◌∙◌, refl, sym, ap}
use Rattle.control.specs.declared.Mode.TheVariants.{Short}
use Rattle.decode.specs.Read.{decode}
use Rattle.decode.specs.declared.Decoded.{Decoded}
use Rattle.decode.proofs.Read.{told_ok, told_err}
use Rattle.link.proofs.Laws.{offered_frame, offered-refused}
use Rattle.link.proofs.offered_to.Goals as goal

pub returns-in-Ok : goal.returns-in-Ok
returns-in-Ok c =
    let t = told_ok (decode Short c.args.frame.now).answer _ _ (sym c.from_bytes.ensures ∙ c.in-Ok.is) in
    let f = ap (λ (d : Decoded). d.frame) t.1 in
    rw (c.followed.ensures, ← f) (sym (offered_frame _ _ (rw t.0 refl)))

pub returns-in-Err : goal.returns-in-Err
returns-in-Err c =
    let r = told_err (decode Short c.args.frame.now).answer _ _ (sym c.from_bytes.ensures ∙ c.in-Err.is) in
    rw c.counted_as.ensures (sym (offered-refused _ _ _ r))
