-- A KISS packet as it stands on the line, by the public KISS document. It is written without the reader.
use Rattle.std.specs.Prelude.{ℕ, ◌*◌, List, [], ◌∷◌, ◌++◌}
use Rattle.escapes.specs.Escape.{fend, escaped}

-- the type octet: the port in its high half, and in its low half the command, which is 0 for data
abbrev pub type_of : ℕ → ℕ
type_of port = port * 16

-- the highest port (document 02, M-103)
abbrev pub last_port : ℕ
last_port = 11

unfoldable pub packet : ℕ → List ℕ → List ℕ
packet port octets = fend ∷ (type_of port ∷ (escaped octets ++ (fend ∷ [])))
