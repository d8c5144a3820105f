-- SSIDs first, then callsigns.
use Rattle.std.proofs.Common.{refl}
use Rattle.hops.specs.Station.{same_station}
use borrow.Author.Tests.{eq-eqb, ne_eqb}
use Rattle.hops.proofs.Laws.{same_is}
use Rattle.hops.proofs.same_station.Goals as goal

pub returns-then-a-b : goal.returns-then-a-b
unfolding same_station
returns-then-a-b c = rw (eq-eqb _ _ c.if-a-b.true, same_is) c.eq.ensures

pub returns-else-a-b : goal.returns-else-a-b
unfolding same_station
returns-else-a-b c = rw (ne_eqb _ _ c.if-a-b.false) refl
