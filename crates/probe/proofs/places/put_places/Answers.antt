-- Five stores, one after the other, are the part at the start.
use Rattle.std.specs.Prelude.{[], ◌∷◌, get_or}
use Rattle.octets.proofs.Splice.{splice-stores}
use Rattle.probe.proofs.places.put_places.Goals as goal

pub returns : goal.returns
returns c =
    let a = c.args in
    splice-stores (get_or a.details 0 0 ∷ get_or a.details 1 0 ∷ get_or a.details 2 0 ∷ a.info_start ∷ a.info_len ∷ []) a.places.now 0 c.requires
