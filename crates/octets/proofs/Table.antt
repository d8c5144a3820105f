-- A table gives a number exactly when the first row whose condition holds has it.
use Prim.Native.Nat.{ℕ}
use mathlib.Core.Path.{◌≡◌, refl, subst}
use mathlib.Core.Bool.{Bool, true, false, cond}
use mathlib.Core.List.{[], ◌∷◌}
use mathlib.Core.Logic.{◌↔◌}
use Rattle.octets.specs.Table.{Table, given, FirstRow, none, here, later}

choose : (n : ℕ) (b : Bool) (rows : Table) (m : ℕ) → FirstRow rows m → FirstRow ((n, b) ∷ rows) (cond b n m)
choose n true rows m r = here refl
choose n false rows m r = later refl r

gives : (rows : Table) → FirstRow rows (given rows)
unfolding given
gives [] = none
gives (row ∷ rows) = choose row.0 row.1 rows (given rows) (gives rows)

only : {rows : Table} {n : ℕ} → FirstRow rows n → given rows ≡ n
unfolding given
only none = refl
only (here e) = rw e
only (later e r) = rw e (only r)

pub exactly : (rows : Table) (n : ℕ) → (given rows ≡ n) ↔ FirstRow rows n
exactly rows n = ((λ e. subst (λ (m : ℕ). FirstRow rows m) e (gives rows)), only)
