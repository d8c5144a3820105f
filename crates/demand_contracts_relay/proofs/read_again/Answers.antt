-- What is decoded is what was relayed.
use Rattle.std.proofs.Common.{ap, ℕ, List}
use Rattle.control.specs.declared.Mode.TheVariants.{Short}
use Rattle.decode.specs.Read.{decode, outcome}
use Rattle.demands.proofs.Relay.{refused_relay, relayed_is}
use borrow.Author.Rules.{rules}
use Rattle.demand_contracts_relay.proofs.read_again.Goals as goal

pub returns-clause-answer_value : goal.returns-clause-answer_value
returns-clause-answer_value c =
    let a = c.args in
    rw c.relay.ensures.bytes_after (λ z. let t = relayed_is a.own a.frame.now z (λ j. search rules) in (t.answer, t.frame, t.info))

pub returns-clause-value : goal.returns-clause-value
returns-clause-value c =
    let a = c.args in
    rw (c.from_bytes.ensures, c.relay.ensures.bytes_after) (λ n. ap (λ (s : List ℕ). outcome (decode Short s)) (refused_relay a.own a.frame.now n))
