-- Document 02, M-100 and M-102: relaying. Its numbers as a table, and what a relayed frame is beside the one that was received.
use Rattle.std.specs.Prelude.{ℕ, suc, ◌<◌, ◌≡◌, Bool, true, false, not, ◌||◌, List, [], ◌∷◌, ◌++◌, eqb, ltb, length, get_or}
use Rattle.octets.specs.Octet.{bit}
use Rattle.octets.specs.All.{all}
use Rattle.address.specs.Address.{low, encodable}
use Rattle.address.specs.declared.Address.{Address}
use Rattle.frame.specs.Spell.{repeater_at}
use Rattle.frame.specs.declared.RouteEntry.{RouteEntry}
use Rattle.frame.specs.declared.Ax25Frame.{Ax25Frame}
use Rattle.decode.specs.Read.{decode, info_in}
use Rattle.hops.specs.Hops.{due_place, broken}
use Rattle.hops.specs.Station.{same_station}
use Rattle.relay.specs.Relay.{used_up, ours, due_mark}
use Rattle.spelling.specs.Canonical.{canonical}
use Rattle.octets.specs.Table.{Table}
use Rattle.control.specs.declared.Mode.TheVariants.{Short}
use Rattle.demands.specs.Numbers.{decode_table}

-- the rows of a frame that decodes: 41, 43, 42
abbrev pub due_rows : Address → Ax25Frame → Table
due_rows own f = (41, used_up f) ∷ (43, broken f) ∷ (42, not (ours own f)) ∷ []

-- the table, by whether our own address is refused: 22, then decoding's rows, then those
abbrev pub relay_rows : Bool → Address → List ℕ → Table
relay_rows refused own s = (22, refused) ∷ (decode_table Short s ++ due_rows own (decode Short s).frame)

abbrev pub relay_table : Address → List ℕ → Table
relay_table own s = relay_rows (not (encodable own)) own s

-- C's own address: a callsign of more than six octets, an octet of 128 or more, or an SSID over 15 is refused
abbrev pub bad_station : List ℕ → ℕ → Bool
bad_station c ssid = ltb 6 (length c) || (not (all low c) || ltb 15 ssid)

-- place i of a route: marked if it was, or if it is the due place
abbrev pub place_marked : List RouteEntry → ℕ → ℕ → RouteEntry
place_marked route due i = record { repeater = (repeater_at route i).repeater; has_repeated = (repeater_at route i).has_repeated || eqb i due }

-- the same frame with that one mark set
unfoldable pub frame_marked : Ax25Frame → ℕ → Ax25Frame
frame_marked f due = record {
  source = f.source;
  destination = f.destination;
  route =
      place_marked f.route due 0 ∷ place_marked f.route due 1 ∷ place_marked f.route due 2 ∷ place_marked f.route due 3
      ∷ place_marked f.route due 4 ∷ place_marked f.route due 5 ∷ place_marked f.route due 6 ∷ place_marked f.route due 7 ∷ [];
  route_count = f.route_count;
  command_or_response = f.command_or_response;
  content = f.content;
}

-- t is s relayed: the mark of the due place is set in it, and all else is as it was received
pub record Relayed (s t : List ℕ) : Type 0 where
  pub as_long : length t ≡ length s
  -- every other octet
  pub others : (k : ℕ) → (k ≡ due_mark s → ⊥) → get_or t k 0 ≡ get_or s k 0
  -- every other bit of that octet
  pub bits : (j : ℕ) → j < 7 → bit j (get_or t (due_mark s) 0) ≡ bit j (get_or s (due_mark s) 0)
  -- its mark, which was not set
  pub clear : bit 7 (get_or s (due_mark s) 0) ≡ false
  pub mark : bit 7 (get_or t (due_mark s) 0) ≡ true
  -- a further decode: the same answer, the same frame with that one mark set, the same info octets
  pub answer : (decode Short t).answer ≡ (decode Short s).answer
  pub frame : (decode Short t).frame ≡ frame_marked (decode Short s).frame (due_place (decode Short s).frame)
  pub info : info_in t (decode Short t) ≡ info_in s (decode Short s)
  pub canonical : canonical Short t ≡ canonical Short s

-- what a second relay by the same station answers of a frame, once relayed: 41 where no place is left, 42 where the next place is
-- another's, 0 where it is ours too
pub record Again (own : Address) (f : Ax25Frame) (number : ℕ) : Type 0 where
  pub none : suc (due_place f) ≡ f.route_count → number ≡ 41
  pub another : (suc (due_place f) ≡ f.route_count → ⊥) → same_station own (repeater_at f.route (suc (due_place f))).repeater ≡ false → number ≡ 42
  pub ours : (suc (due_place f) ≡ f.route_count → ⊥) → same_station own (repeater_at f.route (suc (due_place f))).repeater ≡ true → number ≡ 0
