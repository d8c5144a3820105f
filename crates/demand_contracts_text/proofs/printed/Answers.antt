-- The printer's answer and buffer are the definition's, of which the demands are proved.
use mathlib.Core.Path.{refl, ap, ◌∙◌}
use lib.ListN.{length}
use Rattle.octets.specs.Outcome.{number_by, length_of}
use Rattle.printing.specs.Print.{print_number_of}
use Rattle.printing.proofs.Laws.{refused_print, accepted_print}
use Rattle.demands.proofs.Numbers.{printing}
use Rattle.demand_contracts_text.proofs.printed.Goals as goal

pub returns : goal.returns
returns c =
    let w = c.print.ensures in
    let a = c.args in
    let e = ap (number_by print_number_of) w.value in
    let n = ap length_of w.value in
    record {
      first_row = rw e ((printing a.address (length a.out.now) _).0 refl);
      length_value = λ q. let r = refused_print a.address a.out.now (λ z. q (rw e z)) in (n ∙ r.0, w.out_after ∙ r.1);
      length_value_2 = λ q. let r = accepted_print a.address a.out.now (rw e at q) in (n ∙ r.0, w.out_after ∙ r.1);
    }
