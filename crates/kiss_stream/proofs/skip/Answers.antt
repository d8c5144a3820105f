-- All up to the place that is found are passed over.
use Rattle.std.proofs.Common.{◌≡◌, ◌∙◌, arith, eqb, inl, inr}
use mathlib.Core.Logic.{⊎_elim}
use Rattle.octets.specs.First.{first}
use Rattle.octets.proofs.Position.{first_found}
use Rattle.octets.proofs.Splice.{part_from}
use Rattle.escapes.specs.Escape.{fend}
use Rattle.kiss_stream.proofs.Laws.{run_passes}
use Rattle.kiss_stream.proofs.skip.Goals as goal

pub returns : goal.returns
returns c = λ s p.
    let l = c.args.rest.now in
    let found : c.unwrap_or.result ≡ first (λ b. eqb b fend) l = c.unwrap_or.ensures ∙ rw c.next_fend.ensures (first_found (λ b. eqb b fend) l) in
    let o = ⊎_elim (λ w. inr (p ∙ w.1)) (λ w. inl (p ∙ w)) c.else-phase-ne-OUTSIDE.either in
    rw part_from (run_passes s o l c.unwrap_or.result (omega arith))
