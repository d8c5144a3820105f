-- A table of numbers and conditions, in its order.
use Rattle.std.specs.Prelude.{ℕ, ◌≡◌, Bool, true, false, cond, List, [], ◌∷◌}

abbrev pub Table : Type 0
Table = List (ℕ × Bool)

-- the number of the first row whose condition holds, and 0 where none does
unfoldable pub given : Table → ℕ
given [] = 0
given (row ∷ rows) = cond row.1 row.0 (given rows)

-- this number is that of the first row whose condition holds, or it is 0 and none holds
pub data FirstRow : Table → ℕ → Type 0 where
  none : FirstRow [] 0
  here : {rows : Table} {n : ℕ} {holds : Bool} → holds ≡ true → FirstRow ((n, holds) ∷ rows) n
  later : {rows : Table} {n m : ℕ} {holds : Bool} → holds ≡ false → FirstRow rows m → FirstRow ((n, holds) ∷ rows) m
