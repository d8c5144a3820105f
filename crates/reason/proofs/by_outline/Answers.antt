-- A refused input has no outline; of an accepted one the outline has the end.
use Rattle.std.proofs.Common.{◌≡◌, ◌∙◌, refl, sym, arith}
use Rattle.decode.proofs.Accepts.{accepts}
use Rattle.decode.proofs.Whole.{Outlined, outlined, not_outlined}
use Rattle.reason.specs.Reason.{reason_of}
use Rattle.reason.proofs.by_outline.Goals as goal
use Rattle.reason.proofs.by_outline.Goals.{In-Ok}

told : (c : In-Ok) → Outlined c.args.mode c.args.bytes.now c.in-Ok.outline
told c = outlined _ _ _ (sym c.in-Ok.is ∙ c.requires)

pub accepted_reason-requires : goal.accepted_reason-requires
accepted_reason-requires c =
    let t = told (goal.at.accepted_reason-requires c).In-Ok in
    let a = accepts _ _ t.accepted in
    rw t.end (omega (arith, a.long), a.end_in)

pub returns-in-Ok : goal.returns-in-Ok
unfolding reason_of
returns-in-Ok c =
    let t = told (goal.at.returns-in-Ok c).In-Ok in
    c.accepted_reason.ensures ∙ rw (t.end, t.accepted) refl

pub returns-in-Err : goal.returns-in-Err
unfolding reason_of
returns-in-Err c = rw (not_outlined _ _ _ (sym c.in-Err.is ∙ c.requires)) refl
