-- The hops of a route (document 01, Hops; the due place by document 02, M-102).
use Rattle.std.specs.Prelude.{ℕ, ◌+◌, ◌*◌, Bool, not, ◌&&◌, List, [], ◌∷◌, ltb, drop}
use Rattle.std.specs.Int.Count.{ones}
use Rattle.octets.specs.All.{all}
use Rattle.octets.specs.First.{first}
use Rattle.octets.specs.Octet.{bit, flag}
use Rattle.frame.specs.Spell.{repeater_at}
use Rattle.frame.specs.declared.RouteEntry.{RouteEntry}
use Rattle.frame.specs.declared.Ax25Frame.{Ax25Frame}

-- whether place i is below the route count and marked. A count over 8 reads as 8, since there are eight places
unfoldable pub marked_at : List RouteEntry → ℕ → ℕ → Bool
marked_at route count i = ltb i count && (repeater_at route i).has_repeated

-- the marks of the eight places
unfoldable pub marks : List RouteEntry → ℕ → List Bool
marks route count =
    marked_at route count 0 ∷ marked_at route count 1 ∷ marked_at route count 2 ∷ marked_at route count 3
    ∷ marked_at route count 4 ∷ marked_at route count 5 ∷ marked_at route count 6 ∷ marked_at route count 7 ∷ []

-- bits, lowest first, as a number
unfoldable pub set_of : List Bool → ℕ
set_of [] = 0
set_of (m ∷ ms) = set_of ms * 2 + flag 0 m

-- the hop set: bit i for a marked place i below the route count
unfoldable pub hop_set : Ax25Frame → ℕ
hop_set f = set_of (marks f.route f.route_count)

-- the hops used: the number of ones in the hop set
unfoldable pub hops_used : Ax25Frame → ℕ
hops_used f = ones (hop_set f)

-- the due place: the first that is not marked. No place from the route count on is marked, so that it is the route count where all
-- places in use are
unfoldable pub due_place : Ax25Frame → ℕ
due_place f = first not (marks f.route f.route_count)

-- whether a mark follows the first unmarked place
unfoldable pub broken : Ax25Frame → Bool
broken f = not (all not (drop (due_place f) (marks f.route f.route_count)))

-- the first of the eight places that is not in a set, or 8
unfoldable pub first_clear : ℕ → ℕ
first_clear set =
    first not (bit 0 set ∷ bit 1 set ∷ bit 2 set ∷ bit 3 set ∷ bit 4 set ∷ bit 5 set ∷ bit 6 set ∷ bit 7 set ∷ [])
