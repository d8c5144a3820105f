-- Writing control fields, and FRMR's flags (document 01, Writing; document 02, M-109).
use Rattle.std.specs.Prelude.{ℕ, ◌+◌, ◌*◌, ◌%◌, Bool, List, [], ◌∷◌, get_or}
use Rattle.octets.specs.Octet.{flag}
use Rattle.control.specs.Mode.{limit}
use Rattle.control.specs.declared.Mode.{Mode}
use Rattle.control.specs.declared.Mode.TheVariants.{Short, Long}

-- N(R) modulo 8 (docs/DIFFERENCES.md, A13) in bits 5 to 7, the poll, final or response bit in bit 4, and the low four bits: a short
-- control field, and FRMR's copies
abbrev pub numbered : ℕ → Bool → ℕ → ℕ
numbered receive on low = receive % 8 * 32 + flag 4 on + low

-- the second octet of a long control field: N(R) modulo 128 in bits 1 to 7, the poll or final bit in bit 0
abbrev pub received : ℕ → Bool → ℕ
received receive on = receive % 128 * 2 + flag 0 on

-- N(S) modulo 8 or 128, from bit 1 on
abbrev pub sent : Mode → ℕ → ℕ
sent m send = send % limit m * 2

-- the control field of I and S frames: N(R), the poll or final bit, and what the low bits are
abbrev pub sequenced : Mode → ℕ → Bool → ℕ → List ℕ
sequenced Short receive on low = numbered receive on low ∷ []
sequenced Long receive on low = low ∷ received receive on ∷ []

-- an unnumbered kind with its poll or final bit
abbrev pub unnumbered : ℕ → Bool → ℕ
unnumbered low on = low + flag 4 on

-- FRMR's Z Y X W in bits 3 to 0
abbrev pub flags : Bool → Bool → Bool → Bool → ℕ
flags z y x w = flag 3 z + flag 2 y + flag 1 x + flag 0 w

-- a list of up to four octets, zeros after it: what a function can return by value of the octets before the info
abbrev pub four : List ℕ → List ℕ
four s = get_or s 0 0 ∷ get_or s 1 0 ∷ get_or s 2 0 ∷ get_or s 3 0 ∷ []
