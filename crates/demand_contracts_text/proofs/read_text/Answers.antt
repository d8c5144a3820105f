-- What is shown is the definition's answer, of which the demands are proved.
use Rattle.std.proofs.Common.{◌≡◌, ◌∙◌, refl, sym, ap}
use Rattle.std.specs.Prelude.{IsOk}
use Rattle.octets.specs.Outcome.{number_by, giving}
use Rattle.text.specs.Text.{address_number_of, address_read, read_text}
use Rattle.text.proofs.Laws.{text-refused, text-back}
use Rattle.demands.proofs.Numbers.{text}
use Rattle.demand_contracts_text.proofs.Laws.{number_giving, ok_given, given-ok}
use Rattle.demand_contracts_text.proofs.read_text.Goals as goal
use Rattle.demand_contracts_text.proofs.read_text.Goals.{After-show}

whole : (c : After-show) → giving c.show.result.answer c.show.result.address ≡ read_text c.args.text.now
whole c = c.show.ensures.read ∙ c.from_str.ensures

read_of : (c : After-show) → c.show.result.address ≡ address_read (read_text c.args.text.now)
read_of c = c.show.ensures.address ∙ ap address_read c.from_str.ensures

pub returns : goal.returns
returns c =
    let w = whole c in
    let s = c.show.result in
    record {
      first_row = rw (sym (number_giving address_number_of s.answer s.address) ∙ ap (number_by address_number_of) w) ((text _ _).0 refl);
      address_value = λ n. read_of c ∙ text-refused _ (λ h. n (ok_given s.answer s.address (rw w h)));
      address_value_2 = λ h. rw (w, read_of c) (text-back _ (rw w at (given-ok s.answer s.address h)));
      value = w;
    }
