-- The call's number and buffer are the definition's, of which the demands are proved.
use mathlib.Core.Path.{◌≡◌, refl, ap, sym, ◌∙◌}
use Rattle.control.specs.declared.Mode.TheVariants.{Short}
use Rattle.std.specs.Prelude.{ℕ, Result}
use Rattle.octets.specs.Outcome.{number_by}
use Rattle.decode.specs.Answer.{number_of}
use Rattle.decode.specs.Read.{decode}
use Rattle.decode.proofs.Read.{answer_refused}
use Rattle.respelling.specs.Reencode.{error_number}
use Rattle.respelling.specs.declared.ReencodeError.{ReencodeError}
use Rattle.demands.proofs.Numbers.{decoding}
use Rattle.demands.proofs.OneSpelling.{one_spelling, respelled-refused, respelled-short, respelled_into}
use borrow.Author.Rules.{rules}
use Rattle.demand_contracts_calls.proofs.respelled.Goals as goal

-- the number of an answer
number : {r q : Result ℕ ReencodeError} → r ≡ q → number_by error_number r ≡ number_by error_number q
number e = ap (λ (z : Result ℕ ReencodeError). number_by error_number z) e

pub returns : goal.returns
returns c =
    let w = c.ax25_reencode.ensures in
    let a = c.args in
    let s = a.input.now in
    let out = a.output.now in
    record {
      first_row = λ e.
          let p = answer_refused (decode Short s).answer e in
          let x = respelled-refused Short s out p.0 p.1 in
          (rw (w.value ∙ number x.0 ∙ ap number_of (sym p.1)) ((decoding Short s _).0 refl), w.output_after ∙ x.1);
      value = λ e h. let x = respelled-short Short s out e h in (w.value ∙ number x.0, w.output_after ∙ x.1);
      value_2 = λ e h. let x = respelled_into Short s out e h in (w.value ∙ number x.0, w.output_after ∙ x.1);
      respelled = λ e. (one_spelling Short s (λ j. search rules)).respelled e;
    }
