-- What the call leaves is the definition's, of which the demand is proved.
use mathlib.Core.Path.{ap, sym, ◌∙◌}
use Rattle.octets.specs.Octet.{Octets}
use Rattle.control.specs.Mode.{mode_of}
use Rattle.reason.specs.Reason.{code_of}
use Rattle.demands.specs.Reasons.{Told}
use Rattle.demands.proofs.OneSpelling.{one_spelling}
use Rattle.demands.proofs.Reasons.{told}
use borrow.Author.Rules.{rules}
use Rattle.demand_contracts_calls.proofs.told.Goals as goal

pub returns : goal.returns
returns c =
    let a = c.args in
    let e = c.ax25_reason.ensures in
    let o : Octets a.input.now = λ k. search rules in
    let t : Told (mode_of a.mode) a.input.now = told _ _ o in
    let exact = (one_spelling (mode_of a.mode) a.input.now o).exact in
    record {
      variant = ((λ z. exact.0 (t.none.0 (sym e.value ∙ z))), (λ w. e.value ∙ t.none.1 (exact.1 w)));
      upper_bound = λ y. let x = t.accepted y in (rw e.value x.0, e.number_after ∙ x.1, e.place_after ∙ x.2);
      value = λ y. e.value ∙ ap code_of (t.refused y);
      first_row = rw e.number_after t.number;
      value_2 = (e.value, e.place_after);
    }
