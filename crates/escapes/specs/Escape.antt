-- KISS's escapes, by the public KISS document: how an octet of data is written that may not stand for itself.
use Rattle.std.specs.Prelude.{ℕ, Bool, ◌||◌, cond, List, [], ◌∷◌, ◌++◌, eqb}

-- FEND, which opens and closes a packet
abbrev pub fend : ℕ
fend = 0xC0

-- FESC, which announces an octet that can't stand for itself, and what follows it: TFEND for FEND, TFESC for FESC
abbrev pub fesc : ℕ
fesc = 0xDB

abbrev pub tfend : ℕ
tfend = 0xDC

abbrev pub tfesc : ℕ
tfesc = 0xDD

-- an octet of data as it is written: C0 as DB DC, DB as DB DD, every other as itself
unfoldable pub escape_of : ℕ → List ℕ
escape_of b = cond (eqb b fend) (fesc ∷ tfend ∷ []) (cond (eqb b fesc) (fesc ∷ tfesc ∷ []) (b ∷ []))

unfoldable pub escaped : List ℕ → List ℕ
escaped [] = []
escaped (b ∷ s) = escape_of b ++ escaped s

-- the octets that are written as two
abbrev pub special : ℕ → Bool
special b = eqb b fend || eqb b fesc
