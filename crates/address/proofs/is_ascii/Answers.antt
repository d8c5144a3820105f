-- `is_ascii` is the library's `all`.
use Rattle.std.proofs.Common.{◌∙◌, rules, tests}
use Rattle.std.proofs.lemmas.Iterator.{YieldsList-from_slice}
use Rattle.std.proofs.lemmas.Iterator.Search.{all_from_yields_List}
use Rattle.octets.proofs.Library.{all-library}
use Rattle.address.specs.Address.{low}
use Rattle.address.proofs.is_ascii.Goals as goal

pub returns : goal.returns
returns c =
    all_from_yields_List low _ _ c.all.result c.all.ensures.ran (YieldsList-from_slice c.args.text.now cc) (λ x b q k. search (rules, tests))
    ∙ all-library low c.args.text.now
