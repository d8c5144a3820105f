-- The address of a station: six characters, padded at the end with spaces, an SSID, and the two reserved bits.
use Rattle.std.specs.Prelude.{ℕ, ◌≡◌, Bool, true, ◌&&◌, List, [], ◌∷◌, ltb, leb, length}
use Rattle.octets.specs.All.{all}
use Rattle.address.specs.declared.Address.{Address}

-- a character that seven bits hold
abbrev pub low : ℕ → Bool
low c = ltb c 128

-- the reserved bits where no network uses them: both are ones (AX.25 2.2; document 02, M-106)
abbrev pub reserved_ones : ℕ
reserved_ones = 3

-- the address of a callsign and an SSID, of whose reserved bits nothing is said
abbrev pub with_ones : List ℕ → ℕ → Address
with_ones c s = record { callsign = c; ssid = s; reserved = reserved_ones }

-- NOCALL, SSID 0: what a refused read returns
unfoldable pub no_call : Address
no_call = with_ones (78 ∷ 79 ∷ 67 ∷ 65 ∷ 76 ∷ 76 ∷ []) 0

-- what writing and printing take (number 22 otherwise; docs/DIFFERENCES.md, B3): an SSID of at most 15, reserved bits of at most 3, and
-- no character of 128 or more
unfoldable pub encodable : Address → Bool
encodable a = leb a.ssid 15 && (leb a.reserved 3 && all low a.callsign)

-- an address of a plain frame: one that writing does not refuse
pub record PlainAddress (a : Address) : Type 0 where
  pub six : length a.callsign ≡ 6
  pub writable : encodable a ≡ true
