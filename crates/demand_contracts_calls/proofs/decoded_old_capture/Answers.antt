-- The number is the definition's, of which the demand is proved.
use Prim.Native.Nat.{ℕ}
use mathlib.Core.Path.{ap, sym, ◌∙◌}
use Rattle.control.specs.declared.Mode.TheVariants.{Short}
use Rattle.decode.specs.Answer.{number_of}
use Rattle.decode.specs.Read.{Decoding}
use Rattle.demands.proofs.Old.{old_capture}
use Rattle.demand_contracts_calls.proofs.decoded_old_capture.Goals as goal

pub returns : goal.returns
returns c =
    let e = c.ax25_decode_old_capture.ensures in
    let o = old_capture Short c.args.input.now in
    let n : Decoding → ℕ = λ d. number_of d.answer in
    record { value = e ∙ ap n o.before; value_2 = λ h. e ∙ ap n (o.same h); fact = λ h. o.never (sym e ∙ h) }
