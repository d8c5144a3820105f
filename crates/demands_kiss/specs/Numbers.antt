-- When each number of reading is given (document 02, M-103), said of the octets and not by reading them.
use Rattle.std.specs.Prelude.{ℕ, ◌+◌, ◌-◌, Bool, false, cond, not, ◌&&◌, ◌||◌, List, [], ◌∷◌, eqb, ltb, length, get_or, take, drop}
use Rattle.octets.specs.Octet.{field}
use Rattle.octets.specs.First.{first}
use Rattle.octets.specs.Count.{count}
use Rattle.escapes.specs.Escape.{fend, fesc, tfend, tfesc}
use Rattle.kiss.specs.Packet.{last_port}

abbrev pub is_fend : ℕ → Bool
is_fend b = eqb b fend

abbrev pub is_fesc : ℕ → Bool
is_fesc b = eqb b fesc

-- the octets before the next C0, or all of them where none comes
abbrev pub up_to : List ℕ → List ℕ
up_to s = take (first is_fend s) s

-- those behind the first octet, which should be the opening C0
abbrev pub between : List ℕ → List ℕ
between s = up_to (drop 1 s)

-- whether DC or DD comes first, as behind a DB that is an escape
abbrev pub follows : List ℕ → Bool
follows [] = false
follows (x ∷ s) = eqb x tfend || eqb x tfesc

-- whether somewhere a DB is not followed by DC or DD, or is last
unfoldable pub stray : List ℕ → Bool
stray [] = false
stray (x ∷ s) = (is_fesc x && not (follows s)) || stray s

-- the type octet with its escape removed
unfoldable pub type_octet : List ℕ → ℕ
type_octet s = cond (is_fesc (get_or (between s) 0 0)) (cond (eqb (get_or (between s) 1 0) tfend) fend fesc) (get_or (between s) 0 0)

-- 51: no opening C0
abbrev pub no_opening : List ℕ → Bool
no_opening s = not (is_fend (get_or s 0 0))

-- 55: nothing between the two C0
abbrev pub nothing : List ℕ → Bool
nothing s = is_fend (get_or s 1 0)

-- 52: DB not followed by DC or DD, or last, in the type octet's place
abbrev pub stray_type : List ℕ → Bool
stray_type s = is_fesc (get_or (between s) 0 0) && not (follows (drop 1 (between s)))

-- 54: command not 0
abbrev pub not_data : List ℕ → Bool
not_data s = not (eqb (field 0 4 (type_octet s)) 0)

-- 56: port over 11
abbrev pub port_over : List ℕ → Bool
port_over s = ltb last_port (field 4 4 (type_octet s))

-- 52 again: the same DB anywhere before the closing C0. The type octet is met before the data, so 54 and 56 come before it
abbrev pub stray_data : List ℕ → Bool
stray_data s = stray (between s)

-- 53: no closing C0, or octets after it: then the two C0 and what stands between them are not the whole input
abbrev pub not_closed : List ℕ → Bool
not_closed s = not (eqb (length s) (length (between s) + 2))

-- the length of the data: the type octet, and one octet of each escape, do not count
abbrev pub data_length : List ℕ → ℕ
data_length s = length (between s) - 1 - count is_fesc (between s)

-- 24: too little room for the data
abbrev pub short : List ℕ → ℕ → Bool
short s room = ltb room (data_length s)
