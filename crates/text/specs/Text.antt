-- Reading the text of an address: callsign, hyphen, SSID. The conditions of document 01's number table, and the readers.
use Rattle.std.specs.Prelude.{ℕ, ◌+◌, ◌*◌, ◌-◌, ◌≤◌, ◌<◌, ◌≡◌, Bool, true, cond, not, ◌&&◌, ◌||◌, List, [], ◌∷◌, eqb, ltb, leb, length, get_or, take, drop, Option, Some, None, Result, Ok, Err}
use Rattle.std.specs.Result.{result_unwrap_or}
use Rattle.octets.specs.All.{all}
use Rattle.octets.specs.Count.{count}
use Rattle.octets.specs.First.{first}
use Rattle.address.specs.declared.Address.{Address}
use Rattle.text.specs.declared.AddressError.{AddressError}
use Rattle.text.specs.declared.AddressError.TheVariants.{CallsignTooLong, InvalidFormat, InvalidSsid, SsidOutOfRange, NotAscii}
use Rattle.address.specs.Address.{low, with_ones, no_call}
use Rattle.printing.specs.Print.{used, trimmed}

-- document 01's numbers for an address that is not read
abbrev pub address_number_of : AddressError → ℕ
address_number_of CallsignTooLong = 31
address_number_of InvalidFormat = 32
address_number_of InvalidSsid = 33
address_number_of SsidOutOfRange = 34
address_number_of NotAscii = 35

-- characters of ASCII
abbrev pub hyphen : ℕ → Bool
hyphen c = eqb c 45

abbrev pub plus : ℕ → Bool
plus c = eqb c 43

abbrev pub digit : ℕ → Bool
digit c = leb 48 c && leb c 57

abbrev pub upper_case : ℕ → Bool
upper_case c = leb 65 c && leb c 90

abbrev pub lower_case : ℕ → Bool
lower_case c = leb 97 c && leb c 122

-- a letter or a digit
abbrev pub alphanumeric : ℕ → Bool
alphanumeric c = digit c || upper_case c || lower_case c

-- lower case becomes upper
unfoldable pub upper : ℕ → ℕ
upper c = cond (lower_case c) (c - 32) c

-- the value of decimal digits, the highest first
unfoldable pub decimal_from : ℕ → List ℕ → ℕ
decimal_from v [] = v
decimal_from v (d ∷ ds) = decimal_from (v * 10 + (d - 48)) ds

abbrev pub decimal : List ℕ → ℕ
decimal ds = decimal_from 0 ds

-- one or more decimal digits, of an 8-bit number; leading zeros are allowed
unfoldable pub digits8 : List ℕ → Bool
digits8 ds = ltb 0 (length ds) && (all digit ds && leb (decimal ds) 255)

-- what follows the optional plus sign
unfoldable pub after_plus : List ℕ → List ℕ
after_plus [] = []
after_plus (c ∷ s) = cond (plus c) s (c ∷ s)

-- the parts of a text: what stands before the first hyphen, whether there is one, and what stands after it
abbrev pub callsign_text : List ℕ → List ℕ
callsign_text t = take (first hyphen t) t

abbrev pub has_ssid : List ℕ → Bool
has_ssid t = ltb (first hyphen t) (length t)

abbrev pub ssid_text : List ℕ → List ℕ
ssid_text t = drop (first hyphen t + 1) t

-- the SSID of a text: 0 without a hyphen
unfoldable pub ssid_value : List ℕ → ℕ
ssid_value t = cond (has_ssid t) (decimal (after_plus (ssid_text t))) 0

-- the conditions of the table
-- 35: an octet of 128 or more (docs/DIFFERENCES.md, B2)
abbrev pub high : List ℕ → Bool
high t = not (all low t)

-- 32: two or more hyphens
abbrev pub many_hyphens : List ℕ → Bool
many_hyphens t = ltb 1 (count hyphen t)

-- 33: the SSID text is no 8-bit number
unfoldable pub bad_ssid : List ℕ → Bool
bad_ssid t = has_ssid t && not (digits8 (after_plus (ssid_text t)))

-- 32: the callsign is empty
abbrev pub empty : List ℕ → Bool
empty c = eqb (length c) 0

-- 31: it is longer than 6
abbrev pub long : List ℕ → Bool
long c = ltb 6 (length c)

-- 32: a character of it is not a letter or digit
abbrev pub strange : List ℕ → Bool
strange c = not (all alphanumeric c)

-- 34: the SSID is 16 or more
abbrev pub wide : ℕ → Bool
wide s = ltb 15 s

-- the callsign that is read: in upper case, padded with spaces to six
abbrev pub upper_at : List ℕ → ℕ → ℕ
upper_at c k = upper (get_or c k 32)

unfoldable pub padded : List ℕ → List ℕ
padded c = upper_at c 0 ∷ upper_at c 1 ∷ upper_at c 2 ∷ upper_at c 3 ∷ upper_at c 4 ∷ upper_at c 5 ∷ []

-- the address that was read: NOCALL, SSID 0, for who asks for one where that was refused
abbrev pub address_read : Result Address AddressError → Address
address_read r = result_unwrap_or r no_call

-- what reading a callsign without octets of 128 or more, and an SSID, gives
unfoldable pub read_callsign : List ℕ → ℕ → Result Address AddressError
read_callsign c s =
    cond (empty c) (Err InvalidFormat)
    (cond (long c) (Err CallsignTooLong)
    (cond (strange c) (Err InvalidFormat)
    (cond (wide s) (Err SsidOutOfRange)
    (Ok (with_ones (padded c) s)))))

-- what `from_parts` gives
unfoldable pub read_parts : List ℕ → ℕ → Result Address AddressError
read_parts c s = cond (high c) (Err NotAscii) (read_callsign c s)

-- what the text gives
unfoldable pub read_text : List ℕ → Result Address AddressError
read_text t =
    cond (high t) (Err NotAscii)
    (cond (many_hyphens t) (Err InvalidFormat)
    (cond (bad_ssid t) (Err InvalidSsid)
    (read_callsign (callsign_text t) (ssid_value t))))

-- what the text of an SSID says: the number, if it is one
unfoldable pub digits_say : List ℕ → Option ℕ
digits_say ds = cond (digits8 ds) (Some (decimal ds)) None

-- an address as people write it: 1 to 6 upper-case letters and digits, then spaces; an SSID up to 15. Its reserved bits are any that
-- printing takes
abbrev pub upper_or_digit : ℕ → Bool
upper_or_digit c = digit c || upper_case c

pub record TextAddress (a : Address) : Type 0 where
  pub six : length a.callsign ≡ 6
  pub some : 0 < used a.callsign
  pub characters : all upper_or_digit (trimmed a.callsign) ≡ true
  pub small : a.ssid ≤ 15
  pub reserves : a.reserved ≤ 3
