-- The group of an address (rule 3): seven octets of AX.25's address field. Six hold a character each in bits 1 to 7; the seventh holds the
-- SSID in bits 1 to 4, the reserved bits 5 and 6, the mark (C or H) in bit 7. Bit 0 of each is the extension bit.
use Rattle.std.specs.Prelude.{ℕ, ◌+◌, ◌*◌, ◌/◌, ◌%◌, Bool, cond, Result, Ok, Err, List, [], ◌∷◌, get_or}
use Rattle.octets.specs.Octet.{field, bit, flag}
use Rattle.address.specs.declared.Address.{Address}
use Rattle.group.specs.declared.GroupError.{GroupError}
use Rattle.group.specs.declared.GroupError.TheVariants.{NotEncodable}
use Rattle.address.specs.Address.{encodable}

-- the character in octet k of a group: the octet shifted right by one
abbrev pub character_at : List ℕ → ℕ → ℕ
character_at g k = get_or g k 0 / 2

-- the address in a group: any seven-bit characters (docs/DIFFERENCES.md, A3); the reserved bits as a number, bit 6 the higher (B7)
unfoldable pub address_of : List ℕ → Address
address_of g = record {
  callsign = character_at g 0 ∷ character_at g 1 ∷ character_at g 2 ∷ character_at g 3 ∷ character_at g 4 ∷ character_at g 5 ∷ [];
  ssid = field 1 4 (get_or g 6 0);
  reserved = field 5 2 (get_or g 6 0);
}

-- the mark in the SSID's octet, and of a group
abbrev pub mark_set : ℕ → Bool
mark_set b = bit 7 b

unfoldable pub mark_of : List ℕ → Bool
mark_of g = mark_set (get_or g 6 0)

-- the octet of character k: the character shifted left by one
abbrev pub octet_at : List ℕ → ℕ → ℕ
octet_at c k = get_or c k 0 * 2 % 256

-- the octet of the SSID: mark, reserved bits, SSID, end bit
unfoldable pub ssid_octet : ℕ → ℕ → Bool → Bool → ℕ
ssid_octet ssid reserved mark end = flag 7 mark + reserved % 4 * 32 + ssid % 16 * 2 + flag 0 end

-- the group of an address, with its mark and the end bit
unfoldable pub group_of : Address → Bool → Bool → List ℕ
group_of a mark end =
    octet_at a.callsign 0 ∷ octet_at a.callsign 1 ∷ octet_at a.callsign 2 ∷ octet_at a.callsign 3
    ∷ octet_at a.callsign 4 ∷ octet_at a.callsign 5 ∷ ssid_octet a.ssid a.reserved mark end ∷ []

-- document 01's number for an address that is not written
abbrev pub group_number_of : GroupError → ℕ
group_number_of NotEncodable = 22

-- what writing gives
unfoldable pub write_group : Address → Bool → Bool → Result (List ℕ) GroupError
write_group a mark end = cond (encodable a) (Ok (group_of a mark end)) (Err NotEncodable)
