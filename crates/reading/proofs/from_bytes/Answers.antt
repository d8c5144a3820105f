-- Going on from the input's own outline is decoding.
use Rattle.std.proofs.Common.{◌∙◌, ap}
use Rattle.decode.specs.Read.{Decoding, outcome}
use Rattle.decode.proofs.Whole.{by_outline}
use Rattle.reading.proofs.from_bytes.Goals as goal

pub returns : goal.returns
returns c = c.from_outline.ensures ∙ rw c.outline_of.ensures (ap (λ (d : Decoding). outcome d) (by_outline _ _))
