-- Each refusal by its own test; of an accepted frame the due place decides.
use Rattle.std.proofs.Common.{◌≡◌, ◌∙◌, refl, sym}
use Rattle.std.specs.Prelude.{true, Ok}
use Rattle.std.proofs.lemmas.Result.{err_from_is_err_and}
use Rattle.control.specs.declared.Mode.TheVariants.{Short}
use Rattle.address.specs.Address.{encodable}
use Rattle.decode.specs.Outline.{outline_of}
use Rattle.decode.proofs.Whole.{outlined, not_outlined}
use Rattle.relay.proofs.Laws.{relay_stranger, relay-refused, relay-accepted, relayed_by}
use Rattle.relay.proofs.relay.Goals as goal
use Rattle.relay.proofs.relay.Goals.{Else-not-is_encodable, In_ok-outline}

able : (c : Else-not-is_encodable) → encodable c.args.own ≡ true
able c = sym c.is_encodable.ensures ∙ c.if-not-is_encodable.false

tied : (c : In_ok-outline) → Ok c.in_ok-outline.outline ≡ outline_of Short c.args.bytes.now
tied c = sym c.in_ok-outline.was ∙ c.outline_of.ensures

pub returns-then-not-is_encodable : goal.returns-then-not-is_encodable
returns-then-not-is_encodable c =
    let a = c.args in
    let e = relay_stranger a.own a.bytes.now (sym c.is_encodable.ensures ∙ c.if-not-is_encodable.true) in
    record { value = sym e; bytes_after = sym (relayed_by a.own a.bytes.now _ e) }

pub returns-in_err-outline : goal.returns-in_err-outline
returns-in_err-outline c =
    let a = c.args in
    let p = err_from_is_err_and c.from_residual.result c.from_residual.ensures.1 in
    let r = not_outlined _ _ _ (sym c.in_err-outline.was ∙ c.outline_of.ensures) in
    let e = relay-refused a.own a.bytes.now _ (able (goal.at.returns-in_err-outline c).Else-not-is_encodable) r in
    record { value = rw (p.1, p.2) (sym e); bytes_after = sym (relayed_by a.own a.bytes.now _ e) }

pub relay_due-requires : goal.relay_due-requires
relay_due-requires c = tied (goal.at.relay_due-requires c).In_ok-outline

pub returns : goal.returns
returns c =
    let a = c.args in
    let t = outlined _ _ _ (tied (goal.at.returns c).In_ok-outline) in
    let e = relay-accepted a.own a.bytes.now (able (goal.at.returns c).Else-not-is_encodable) t.accepted in
    record { value = c.relay_due.ensures.value ∙ sym e; bytes_after = c.relay_due.ensures.bytes_after ∙ sym (relayed_by a.own a.bytes.now _ e) }
