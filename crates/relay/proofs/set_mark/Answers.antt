-- The octet or-ed with 80 hex is the octet with its mark.
use mathlib.Core.Path.{refl}
use native.Mathlib.Omega.{arith}
use Rattle.relay.proofs.Laws.{or_mark_lem}
use lib.ListN.{get_or}
use Rattle.relay.proofs.set_mark.Goals as goal

pub returns : goal.returns
returns c =
    let a = c.args in
    rw (or_mark_lem (get_or a.bytes.now a.last 0) (omega arith)) refl
