-- Printing an address: its text, the numbers of refusals, and what is left in the output (document 01, Text).
use Rattle.std.specs.Prelude.{ℕ, suc, ◌+◌, ◌/◌, ◌%◌, Bool, Result, Ok, Err, cond, ◌&&◌, List, [], ◌∷◌, ◌++◌, eqb, ltb, length, take}
use Rattle.octets.specs.Splice.{splice}
use Rattle.address.specs.declared.Address.{Address}
use Rattle.address.specs.Address.{encodable}
use Rattle.printing.specs.declared.PrintError.{PrintError}
use Rattle.printing.specs.declared.PrintError.TheVariants.{NotEncodable, NoRoom}

abbrev pub space : ℕ → Bool
space c = eqb c 32

-- how many characters stand before the spaces at the end
unfoldable pub used : List ℕ → ℕ
used [] = 0
used (c ∷ s) = cond (eqb (used s) 0 && space c) 0 (suc (used s))

-- the callsign without its padding
abbrev pub trimmed : List ℕ → List ℕ
trimmed c = take (used c) c

-- an SSID in decimal. Printing refuses those over 15, so that two digits are enough
unfoldable pub decimal_text : ℕ → List ℕ
decimal_text n = cond (ltb n 10) ((48 + n) ∷ []) ((48 + n / 10) ∷ (48 + n % 10) ∷ [])

-- a hyphen and the SSID; "-0" is omitted
unfoldable pub ssid_suffix : ℕ → List ℕ
ssid_suffix s = cond (eqb s 0) [] (45 ∷ decimal_text s)

-- the text of an address, for those that printing takes
abbrev pub text_of : Address → List ℕ
text_of a = trimmed a.callsign ++ ssid_suffix a.ssid

-- document 01's numbers for an address that is not printed
abbrev pub print_number_of : PrintError → ℕ
print_number_of NotEncodable = 22
print_number_of NoRoom = 24

-- 24: the output is shorter than the text
abbrev pub short : Address → ℕ → Bool
short a room = ltb room (length (text_of a))

-- what printing answers, with room for that many octets: how long the text is
unfoldable pub printed : Address → ℕ → Result ℕ PrintError
printed a room = cond (encodable a) (cond (short a room) (Err NoRoom) (Ok (length (text_of a)))) (Err NotEncodable)

-- what it leaves in the output: the text at its start, or all as it was
unfoldable pub printed_into : Address → List ℕ → List ℕ
printed_into a out = cond (encodable a) (splice out 0 (text_of a)) out
