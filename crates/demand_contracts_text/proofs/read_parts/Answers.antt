-- What is shown is the definition's answer, of which the demands are proved.
use Rattle.std.proofs.Common.{◌≡◌, ◌∙◌, refl, sym, ap}
use Rattle.std.specs.Prelude.{IsOk}
use Rattle.octets.specs.Outcome.{number_by, giving}
use Rattle.text.specs.Text.{address_number_of, address_read, read_parts}
use Rattle.text.proofs.Laws.{parts-refused}
use Rattle.demands.proofs.Numbers.{parts}
use Rattle.demand_contracts_text.proofs.Laws.{number_giving, ok_given}
use Rattle.demand_contracts_text.proofs.read_parts.Goals as goal
use Rattle.demand_contracts_text.proofs.read_parts.Goals.{After-show}

whole : (c : After-show) → giving c.show.result.answer c.show.result.address ≡ read_parts c.args.callsign.now c.args.ssid
whole c = c.show.ensures.read ∙ c.from_parts.ensures

read_of : (c : After-show) → c.show.result.address ≡ address_read (read_parts c.args.callsign.now c.args.ssid)
read_of c = c.show.ensures.address ∙ ap address_read c.from_parts.ensures

pub returns : goal.returns
returns c =
    let w = whole c in
    let s = c.show.result in
    record {
      first_row = rw (sym (number_giving address_number_of s.answer s.address) ∙ ap (number_by address_number_of) w) ((parts _ _ _).0 refl);
      address_value = λ n. read_of c ∙ parts-refused _ _ (λ h. n (ok_given s.answer s.address (rw w h)));
      value = w;
    }
