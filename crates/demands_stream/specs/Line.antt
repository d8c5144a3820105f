-- A line as the packets that stand on it, without any state: it is cut at each C0, and M-103's reader reads what stands between two.
use Rattle.std.specs.Prelude.{ℕ, Bool, false, cond, not, ◌&&◌, List, [], ◌∷◌, ◌++◌, is_ok, eqb, leb, ltb, length}
use Rattle.escapes.specs.Escape.{fend}
use Rattle.kiss_reading.specs.Answer.{Reading, octets_given}
use Rattle.kiss_reading.specs.Read.{read_packet}
use Rattle.kiss_state.specs.State.{room}

-- what stands between two C0, with them: a packet's own octets
abbrev pub own : List ℕ → List ℕ
own t = fend ∷ (t ++ (fend ∷ []))

-- it is given out: M-103 accepts it, and it has at most 1,024 octets of data
abbrev pub whole : List ℕ → Bool
whole t = is_ok (read_packet (own t)) && leb (length (octets_given (read_packet (own t)))) room

-- or it is passed over, where it is nothing; or else dropped
abbrev pub spoilt : List ℕ → Bool
spoilt [] = false
spoilt (x ∷ t) = not (whole (x ∷ t))

-- what stands between each C0 and the next, where `since` has come since the last one
unfoldable pub between : (since : List ℕ) → List ℕ → List (List ℕ)
between since [] = []
between since (x ∷ l) = cond (eqb x fend) (since ∷ between [] l) (between (since ++ (x ∷ [])) l)

-- octets before the first C0 are passed over
unfoldable pub cut_at_fend : List ℕ → List (List ℕ)
cut_at_fend [] = []
cut_at_fend (x ∷ l) = cond (eqb x fend) (between [] l) (cut_at_fend l)

-- the packets given out, in their order
unfoldable pub given_out : List (List ℕ) → List Reading
given_out [] = []
given_out (t ∷ ts) = cond (whole t) (read_packet (own t) ∷ given_out ts) (given_out ts)

-- a count that stops
abbrev pub at_most : (last n : ℕ) → ℕ
at_most last n = cond (ltb last n) last n
