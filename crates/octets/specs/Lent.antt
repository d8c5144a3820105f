-- What a call that writes octets leaves in a lent buffer.
use Rattle.std.specs.Prelude.{ℕ, List, ◌++◌, length, drop}

-- a buffer with these octets at its start, and beyond them as it was
abbrev pub starting : List ℕ → List ℕ → List ℕ
starting t out = t ++ drop (length t) out
