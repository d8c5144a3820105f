-- The number is the definition's, of which the demand is proved.
use mathlib.Core.Path.{sym, ◌∙◌}
use Rattle.control.specs.declared.Mode.TheVariants.{Short}
use Rattle.demands.proofs.Numbers.{decoding}
use Rattle.demands.proofs.Modes.{never_six, short_numbers}
use Rattle.demand_contracts_calls.proofs.decoded.Goals as goal

pub returns : goal.returns
returns c =
    let e = c.ax25_decode.ensures in
    let s = c.args.input.now in
    let n = short_numbers s in
    record { first_row = (decoding Short s _).0 (sym e); fact = ((λ z. never_six Short s (sym e ∙ z)), (λ z. n.0 (sym e ∙ z)), (λ z. n.1 (sym e ∙ z))) }
