-- The two numbers are the definitions', which agree exactly then.
use borrow.Author.Tests.{eq-eqb, eqb-true}
use Rattle.demands.proofs.Due.{agreeing}
use Rattle.demand_contracts_relay.proofs.in_order.Goals as goal

pub returns : goal.returns
returns c =
    let a = agreeing c.args.frame in
    rw (c.hops_used-used.ensures, c.due_place.ensures) ((λ e. a.0 (eqb-true _ _ e)), (λ o. eq-eqb _ _ (a.1 o)))
