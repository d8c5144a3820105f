-- What is relayed is canonical where the frame was.
use mathlib.Core.Path.{◌∙◌}
use Rattle.demands.proofs.Relay.{relayed-canonical}
use borrow.Author.Rules.{rules}
use Rattle.demand_contracts_relay.proofs.canonical_again.Goals as goal

pub returns-clause-value : goal.returns-clause-value
returns-clause-value c =
    let a = c.args in
    c.is_canonical.ensures ∙ rw c.relay.ensures.bytes_after (relayed-canonical a.own a.frame.now (λ j. search rules))
