-- Two stations are equal when callsign and SSID are (document 01, Hops), whatever their reserved bits are (document 02, M-106).
use Rattle.std.specs.Prelude.{Bool, ◌&&◌, eqb}
use Rattle.octets.specs.Same.{same}
use Rattle.address.specs.declared.Address.{Address}

unfoldable pub same_station : Address → Address → Bool
same_station a b = eqb a.ssid b.ssid && same a.callsign b.callsign
