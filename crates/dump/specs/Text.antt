-- Texts as octets: an address and a route as the dumper prints them.
use Rattle.std.specs.Prelude.{ℕ, zero, suc, cond, List, [], ◌∷◌, ◌++◌, eqb}
use Rattle.printing.specs.Print.{trimmed}
use Rattle.address.specs.declared.Address.{Address}
use Rattle.frame.specs.Spell.{repeater_at}
use Rattle.frame.specs.declared.RouteEntry.{RouteEntry}
use Rattle.words.specs.Ascii.{ascii}
use Rattle.words.specs.Words.{character, decimal}

unfoldable pub characters : List ℕ → List ℕ
characters [] = []
characters (c ∷ s) = character c ++ characters s

-- - and the SSID, unless it is 0
unfoldable pub ssid_text : ℕ → List ℕ
ssid_text s = cond (eqb s 0) [] (ascii "-" ++ decimal s)

-- an address: its callsign without the padding, then its SSID
unfoldable pub address_text : Address → List ℕ
address_text a = characters (trimmed a.callsign) ++ ssid_text a.ssid

-- a route entry, a marked one followed by *
unfoldable pub entry_text : RouteEntry → List ℕ
entry_text e = address_text e.repeater ++ cond e.has_repeated (ascii "*") []

-- the first n route entries, separated by commas
unfoldable pub route_text : List RouteEntry → ℕ → List ℕ
route_text route zero = []
route_text route (suc n) = route_text route n ++ (cond (eqb n 0) [] (ascii ",") ++ entry_text (repeater_at route n))
