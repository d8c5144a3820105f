-- The twelve octets are the content's.
use mathlib.Core.Path.{refl, ◌∙◌}
use Rattle.flat.proofs.laid.put_content.Goals as goal

pub returns : goal.returns
returns c = c.put.ensures ∙ rw c.content_octets-octets.ensures refl
