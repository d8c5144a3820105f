-- The record's own refusal, or the frame offered.
use mathlib.Core.Path.{◌≡◌, refl, sym, ◌∙◌}
use mathlib.Core.Bool.{true}
use native.Mathlib.Omega.{arith}
use Rattle.link_record.specs.Record.{refusal}
use Rattle.link_record.proofs.Laws.{takes, taking, sound}
use Rattle.link.proofs.Laws.{step_by_lem}
use Rattle.link.proofs.step.Goals as goal

pub invariant_of-offered_to : goal.invariant_of-offered_to
invariant_of-offered_to c =
    let l = c.args.link in
    let e : takes (refusal l) ≡ true = rw (← c.refusal.ensures, c.in-Ok.is) refl in
    let t = taking l e in
    record { counts = omega (arith, (sound l t.is_sound).counts, t.room); room = t.room }

pub returns-in-Ok : goal.returns-in-Ok
returns-in-Ok c = c.offered_to.ensures ∙ step_by_lem _ _ _ (sym c.in-Ok.is ∙ c.refusal.ensures)

pub returns-in-Err : goal.returns-in-Err
returns-in-Err c = step_by_lem _ _ _ (sym c.in-Err.is ∙ c.refusal.ensures)
