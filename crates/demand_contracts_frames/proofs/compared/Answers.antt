-- The check's and the decoder's results are the definitions', of which nothing is unseen.
use mathlib.Core.Path.{sym, ◌∙◌}
use Rattle.demands.proofs.Unseen.{nothing-unseen}
use borrow.Author.Rules.{rules}
use Rattle.demand_contracts_frames.proofs.compared.Goals as goal

pub returns : goal.returns
returns c =
    let check = c.is_canonical.ensures in
    let read = c.decoded.ensures.value in
    let check-other = c.is_canonical-2.ensures in
    let read-other = c.decoded-2.ensures.value in
    record {
      nothing_unseen = rw (read, check-other, read-other)
          (λ yes. nothing-unseen _ _ _ (λ j. search rules) (λ j. search rules) (sym check ∙ yes));
      canonical_value = (check, read, check-other, read-other);
    }
