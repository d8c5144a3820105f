-- By whether there is an outline.
use Rattle.std.proofs.Common.{◌≡◌, ◌∙◌, refl, sym}
use Rattle.decode.proofs.Read.{answer_accepted}
use Rattle.decode.proofs.Whole.{outlined, not_outlined}
use Rattle.reason.specs.Reason.{why_of, place_of}
use Rattle.reason.proofs.why_of.Goals as goal

pub returns-in-Ok : goal.returns-in-Ok
unfolding why_of place_of
returns-in-Ok c =
    let t = outlined _ _ _ (sym c.in-Ok.is ∙ c.outline_of-outline.ensures) in
    rw (c.by_outline-reason.ensures, answer_accepted _ t.accepted) refl

pub returns-in-Err : goal.returns-in-Err
unfolding why_of
returns-in-Err c =
    let t = not_outlined _ _ _ (sym c.in-Err.is ∙ c.outline_of-outline.ensures) in
    rw (c.place_of.ensures, c.number.ensures, c.by_outline-reason.ensures, t) refl
