-- Nobody of what is refused, or the frame's sender.
use Rattle.std.proofs.Common.{◌∙◌, refl, sym, ap}
use Rattle.control.specs.declared.Mode.TheVariants.{Short}
use Rattle.decode.specs.Read.{decode}
use Rattle.decode.specs.declared.Decoded.{Decoded}
use Rattle.decode.proofs.Read.{told_ok, told_err}
use Rattle.link.proofs.Laws.{sent_by, sent_by_neither}
use Rattle.link.proofs.sender_of.Goals as goal

pub returns-in_default : goal.returns-in_default
returns-in_default c =
    let r = told_err (decode Short c.args.frame.now).answer _ _ (sym c.from_bytes.ensures ∙ c.in_default.is) in
    sym (sent_by_neither _ _ (rw r refl))

pub returns : goal.returns
returns c =
    let t = told_ok (decode Short c.args.frame.now).answer _ _ (sym c.from_bytes.ensures ∙ c.in-Ok.is) in
    let f = ap (λ (d : Decoded). d.frame) t.1 in
    c.sender_in.ensures ∙ rw (← f) (sym (sent_by _ _ (rw t.0 refl)))
