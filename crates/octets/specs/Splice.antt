-- A list with a part replaced: what a write leaves in a lent buffer.
use Rattle.std.specs.Prelude.{ℕ, ◌+◌, cond, List, ◌++◌, leb, length, take, drop}

-- the list with `part` in the place of what stands from `at` on; the list as it was where the part does not fit there
unfoldable pub splice : {A : Type 0} → List A → ℕ → List A → List A
splice l at part = cond (leb (at + length part) (length l)) (take at l ++ (part ++ drop (at + length part) l)) l
