-- `are_alphanumeric` is the library's `all`.
use Rattle.std.proofs.Common.{◌∙◌, rules, tests}
use Rattle.std.proofs.lemmas.Iterator.{YieldsList-from_slice}
use Rattle.std.proofs.lemmas.Iterator.Search.{all_from_yields_List}
use Rattle.octets.proofs.Library.{all-library}
use Rattle.text.specs.Text.{alphanumeric}
use Rattle.text.proofs.are_alphanumeric.Goals as goal

pub returns : goal.returns
returns c =
    all_from_yields_List alphanumeric _ _ c.all.result c.all.ensures.ran (YieldsList-from_slice c.args.callsign.now cc)
    (λ x b q k. search (rules, tests))
    ∙ all-library alphanumeric c.args.callsign.now
