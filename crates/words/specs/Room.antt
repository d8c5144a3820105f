-- A page: its text is cut off at its end. And what is written of it to a lent buffer: how long its text is, and the place behind it.
use Rattle.std.specs.Prelude.{ℕ, ◌+◌, cond, List, Option, Some, None, ltb, length, take}

-- a text without what stands behind its first n octets
unfoldable pub cut : ℕ → List ℕ → List ℕ
cut n t = take n t

-- the length of a text, where it fits so much room
unfoldable pub fitting : ℕ → List ℕ → Option ℕ
fitting room text = cond (ltb room (length text)) None (Some (length text))

-- the place behind a text that is put at a place of a buffer of so much room: the same place where it does not fit there
unfoldable pub behind : ℕ → ℕ → List ℕ → ℕ
behind room at text = cond (ltb room (at + length text)) at (at + length text)
