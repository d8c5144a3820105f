-- So is an old capture's.
use Rattle.std.proofs.Common.{◌≡◌, ◌∙◌, refl, sym, ap, subst}
use Rattle.demands.specs.Old.{OldCapture}
use Rattle.demands.proofs.Old.{old_capture}
use Rattle.demand_contracts_frames.specs.Shown.{shown_of}
use Rattle.demand_contracts_frames.proofs.Laws.{old_shown}
use Rattle.demand_contracts_frames.proofs.old_capture.Goals as goal

pub returns : goal.returns
returns c =
    let w = c.show.ensures ∙ ap shown_of c.from_bytes.ensures ∙ old_shown c.args.mode c.args.capture.now in
    subst (OldCapture _ _) (sym w) (old_capture _ _)
