-- What stands for a refused input is the default.
use Rattle.std.proofs.Common.{◌≡◌, refl}
use Rattle.decode.specs.Read.{refused_with}
use Rattle.demand_contracts_frames.proofs.show.Goals as goal

pub returns-in-Err : goal.returns-in-Err
unfolding refused_with
returns-in-Err c =
    let n = rw c.in-Err.is at c.unwrap_or_default-info_start.ensures in
    rw (c.in-Err.is, n) refl
