-- The answer of the remainder's outline, moved.
use Rattle.std.proofs.Common.{rules, ◌≡◌, ◌∙◌, refl, sym}
use Rattle.std.specs.Prelude.{drop}
use Rattle.octets.proofs.Splice.{part_from}
use Rattle.decode.specs.Outline.{outline_of}
use Rattle.decode.specs.Read.{start_of}
use Rattle.decode.proofs.Read.{start-masked, answer_accepted}
use Rattle.decode.proofs.Whole.{outlined, not_outlined}
use Rattle.old_captures.proofs.Laws.{places_inside, old_refused, old_accepted}
use Rattle.old_captures.proofs.answer_of.Goals as goal
use Rattle.old_captures.proofs.answer_of.Goals.{After-outline_of}

nulls : (c : After-outline_of) → c.find-nulls.result ≡ start_of c.args.capture.now
nulls c = c.find-nulls.ensures.value ∙ start-masked _ (λ k. search rules)

-- the outline is that of the remainder
rest : (c : After-outline_of) → c.outline_of.result ≡ outline_of c.args.mode (drop (start_of c.args.capture.now) c.args.capture.now)
rest c = c.outline_of.ensures ∙ rw (part_from, nulls c) refl

pub moved_error-requires : goal.moved_error-requires
moved_error-requires c =
    let o = (goal.at.moved_error-requires c).After-outline_of in
    let r = not_outlined _ _ _ (sym c.in-Err.is ∙ rest o) in
    rw (nulls o) (rw r at (places_inside c.args.mode c.args.capture.now))

pub returns-in-Ok : goal.returns-in-Ok
returns-in-Ok c =
    let t = outlined _ _ _ (sym c.in-Ok.is ∙ rest (goal.at.returns-in-Ok c).After-outline_of) in
    sym (old_accepted _ _ (answer_accepted _ t.accepted))

pub returns-in-Err : goal.returns-in-Err
returns-in-Err c =
    let o = (goal.at.returns-in-Err c).After-outline_of in
    let r = not_outlined _ _ _ (sym c.in-Err.is ∙ rest o) in
    rw (c.moved_error.ensures, nulls o) (sym (old_refused _ _ _ r))
