-- By the two addresses.
use mathlib.Core.Path.{refl}
use Rattle.probe.proofs.probe_same_station.Goals as goal

pub returns-then-same_station : goal.returns-then-same_station
returns-then-same_station c = rw (← c.address_from-a.ensures, ← c.address_from-b.ensures, ← c.same_station.ensures, c.if-same_station.true) refl

pub returns-else-same_station : goal.returns-else-same_station
returns-else-same_station c = rw (← c.address_from-a.ensures, ← c.address_from-b.ensures, ← c.same_station.ensures, c.if-same_station.false) refl
