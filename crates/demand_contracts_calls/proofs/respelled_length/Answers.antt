-- The length is that of what is due: nothing of a refused input, the respelling of an accepted one.
use mathlib.Core.Path.{ap}
use lib.ListN.{length}
use Rattle.respelling.proofs.Laws.{due-refused, due-again}
use Rattle.demand_contracts_calls.proofs.respelled_length.Goals as goal

pub returns : goal.returns
returns c =
    let n = c.ax25_reencoded_length.ensures in
    record { value = rw n (λ e. ap length (due-refused _ _ e)); value_2 = rw n (λ e. ap length (due-again _ _ e)) }
