-- The check's result is the definition's, which is exact.
use Rattle.demands.proofs.OneSpelling.{one_spelling}
use borrow.Author.Rules.{rules}
use Rattle.demand_contracts_frames.proofs.canonical.Goals as goal

pub returns : goal.returns
returns c = rw c.is_canonical.ensures (one_spelling c.args.mode c.args.bytes.now (λ k. search rules)).exact
