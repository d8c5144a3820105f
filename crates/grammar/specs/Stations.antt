-- The stations of a frame, and the reserved bits of their groups.
use Rattle.std.specs.Prelude.{ℕ, zero, suc, ◌+◌, ◌*◌, ◌<◌, ◌≡◌, List, get_or}
use Rattle.octets.specs.Octet.{field}
use Rattle.address.specs.declared.Address.{Address}
use Rattle.frame.specs.Spell.{repeater_at}
use Rattle.frame.specs.declared.Ax25Frame.{Ax25Frame}

-- the stations in the order of their groups: destination, source, the repeaters
abbrev pub station_at : Ax25Frame → ℕ → Address
station_at f zero = f.destination
station_at f (suc zero) = f.source
station_at f (suc (suc i)) = (repeater_at f.route i).repeater

-- bits 6 and 5 of the seventh octet of group j, as a number
abbrev pub reserved_at : List ℕ → ℕ → ℕ
reserved_at s j = field 5 2 (get_or s (7 * j + 6) 0)

-- the groups of s have the reserved bits of the frame's stations
abbrev pub Reserves : List ℕ → Ax25Frame → Type 0
Reserves s f = (j : ℕ) → j < f.route_count + 2 → reserved_at s j ≡ (station_at f j).reserved
