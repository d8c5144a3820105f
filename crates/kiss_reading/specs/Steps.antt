-- What the two passes of reading do at one place: the steps of the code, which `Read` does not rest on.
use Rattle.std.specs.Prelude.{ℕ, ◌+◌, cond, List, [], ◌∷◌, Option, Some, None, Result, Ok, Err, eqb, take}
use Rattle.octets.specs.First.{first}
use Rattle.escapes.specs.Escape.{fend, fesc, tfend, tfesc, special}
use Rattle.kiss_reading.specs.Read.{closed}
use Rattle.kiss_reading.specs.declared.KissError.{KissError}
use Rattle.kiss_reading.specs.declared.KissError.TheVariants.{BadEscape, NoClosing}
use Rattle.kiss_reading.specs.declared.Step.{Step}
use Rattle.kiss_reading.specs.declared.Step.TheVariants.{Plain, Escaped}

-- how many octets of the packet a step takes, and the octets of data that it gives
abbrev pub taken_by : Step → ℕ
taken_by (Plain n) = n
taken_by (Escaped b) = 2

abbrev pub data_of : Step → List ℕ → List ℕ
data_of (Plain n) l = take n l
data_of (Escaped b) l = b ∷ []

-- how many these are
abbrev pub given_by : Step → ℕ
given_by (Plain n) = n
given_by (Escaped b) = 1

-- behind a DB, the octet that the two stand for
unfoldable pub escape_step : List ℕ → Option Step
escape_step [] = None
escape_step (y ∷ l) = cond (eqb y tfend) (Some (Escaped fend)) (cond (eqb y tfesc) (Some (Escaped fesc)) None)

-- the step: an escaped octet, or all octets up to the next C0 or DB; none at a C0 or at a bad escape
unfoldable pub step_from : List ℕ → Option Step
step_from [] = None
step_from (x ∷ l) = cond (eqb x fend) None (cond (eqb x fesc) (escape_step l) (Some (Plain (first special (x ∷ l)))))

-- what is heard where there is no step
unfoldable pub stopped_at : List ℕ → Result (List ℕ) KissError
stopped_at [] = Err NoClosing
stopped_at (x ∷ l) = cond (eqb x fend) (closed l) (Err BadEscape)

-- so many octets of data more
abbrev pub plus : ℕ → Result ℕ KissError → Result ℕ KissError
plus n (Ok m) = Ok (n + m)
plus n (Err e) = Err e
