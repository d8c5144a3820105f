-- Octets and their bits. Bit 0 is the low bit, as AX.25's figures number them.
use Rattle.std.specs.Prelude.{ℕ, ◌<◌, ◌/◌, ◌%◌, ◌^◌, Bool, cond, List, eqb, get_or}

-- a list of octets: each element is below 256
abbrev pub Octets : List ℕ → Type 0
Octets s = (k : ℕ) → get_or s k 0 < 256

-- the field of `width` bits that starts at bit `low`, as a number
abbrev pub field : ℕ → ℕ → ℕ → ℕ
field low width b = b / 2 ^ low % 2 ^ width

-- whether bit k is set
abbrev pub bit : ℕ → ℕ → Bool
bit k b = eqb (field k 1 b) 1

-- what bit k adds to an octet, where it is set
abbrev pub flag : ℕ → Bool → ℕ
flag k on = cond on (2 ^ k) 0
