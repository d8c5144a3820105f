-- What writing the data does at one place: the steps of the code, which `Write` does not rest on.
use Rattle.std.specs.Prelude.{ℕ, cond, List, [], ◌∷◌, take, eqb}
use Rattle.octets.specs.First.{first}
use Rattle.escapes.specs.Escape.{fend, fesc, tfend, tfesc, special}

-- how many octets of the data are taken: the first, where it is special, else all before the next special one
unfoldable pub next_count : List ℕ → ℕ
next_count [] = 0
next_count (x ∷ l) = cond (eqb x fend) 1 (cond (eqb x fesc) 1 (first special (x ∷ l)))

-- and what is written for them
unfoldable pub next_octets : List ℕ → List ℕ
next_octets [] = []
next_octets (x ∷ l) =
    cond (eqb x fend) (fesc ∷ tfend ∷ [])
    (cond (eqb x fesc) (fesc ∷ tfesc ∷ []) (take (first special (x ∷ l)) (x ∷ l)))
