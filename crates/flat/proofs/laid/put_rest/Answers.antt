-- Two octets, then the content after them.
use mathlib.Core.Path.{◌∙◌}
use Rattle.flat.proofs.Parts.{rest_put}
use Rattle.flat.proofs.laid.put_rest.Goals as goal

pub returns : goal.returns
returns c =
    c.put-2.ensures
    ∙ rw (c.put.ensures, c.content_octets-octets.ensures, c.mark_octet.ensures, c.count_octet.ensures)
    (rest_put _ _ _ c.args.frame.content c.requires)
