-- What the functions' proofs share: one place of the route as the loop meets it, the octet that a mark is set in, the parts of a
-- frame that decodes. And the answers in their order, for the crates above.
use Prim.Native.Nat.{ℕ, ◌+◌, ◌*◌, ◌/◌, ◌≤◌, ◌<◌}
use mathlib.Core.Path.{◌≡◌, refl, ap, sym, ◌∙◌}
use mathlib.Core.Bool.{true, false, ◌&&◌}
use mathlib.Core.List.{List, [], ◌∷◌}
use native.Mathlib.Omega.{arith}
use borrow.Author.Tests.{eq-eqb, ne_eqb, eqb-true, eqb-false, lt-ltb, le-ltb}
use lib.Bits.{bit_or}
use lib.Dec.{leb}
use lib.ListN.{length, get_or}
use Rattle.octets.specs.All.{all}
use Rattle.octets.specs.Octet.{field, flag}
use Rattle.octets.proofs.Choice.{by}
use Rattle.octets.proofs.Octet.{octet-same}
use Rattle.control.specs.declared.Mode.TheVariants.{Short}
use Rattle.address.specs.Address.{low, encodable}
use Rattle.address.proofs.Laws.{encodable_is}
use Rattle.group.specs.Group.{mark_set}
use Rattle.address.specs.declared.Address.{Address}
use Rattle.frame.specs.Spell.{repeater_at}
use Rattle.frame.specs.declared.Ax25Frame.{Ax25Frame}
use Rattle.decode.specs.Answer.{is_accepted}
use Rattle.decode.specs.Read.{parsed_at, route_at, decode}
use Rattle.hops.specs.Hops.{marked_at, marks, set_of, hop_set, due_place, broken}
use Rattle.hops.proofs.Laws.{marked_in, hop-set_is}
use Rattle.grammar.proofs.Marks.{route, place_read}
use Rattle.std.specs.Prelude.{Ok, Err}
use Rattle.decode.specs.declared.DecodeError.{DecodeError}
use Rattle.decode.proofs.Read.{answer_accepted}
use Rattle.relay.specs.declared.RelayError.TheVariants.{NotEncodable, Refused, RouteUsedUp, BrokenMarks, AnotherStation}
use Rattle.relay.specs.Relay.{RelayAnswer, or_mark, ours, due_answer, relay_answer, left_by, relayed, station_of, relay_answer_as, relayed_as}

-- the mark of a place, shifted down, is what its bit adds to the set
shifted : (b : ℕ) → b < 256 → b / 128 ≡ flag 0 (mark_set b)
shifted b h =
    by (mark_set b)
    (λ e. rw e (omega (arith, eqb-true (field 7 1 b) 1 e)))
    (λ e. rw e (omega (arith, eqb-false (field 7 1 b) 1 e)))

pub mark_read : (s : List ℕ) (at n i : ℕ) → i < n → n ≤ 8 → get_or s (at + 7 * i + 6) 0 < 256
    → get_or s (at + 7 * i + 6) 0 / 128 ≡ flag 0 (marked_at (route_at s at n) n i)
mark_read s at n i h l o =
    shifted (get_or s (at + 7 * i + 6) 0) o ∙ ap (flag 0) (sym (marked_in (route_at s at n) n i h ∙ (place_read s at n i h l).1))

-- the code's or
pub or_mark_lem : (b : ℕ) → b < 256 → bit_or b 0x80 ≡ or_mark b
or_mark_lem b h = octet-same (λ n. bit_or n 0x80) or_mark tt b h

-- of an accepted input: its groups stand in it; the marks that the loop meets are its hop set; the group at the due place is the
-- repeater's
module _ (s : List ℕ) (e : is_accepted (decode Short s).answer ≡ true) where
  abbrev n : ℕ
  n = (decode Short s).frame.route_count

  pub groups_inside : (n ≤ 8) × (14 + 7 * n ≤ length s)
  groups_inside = let r = route Short s e in (r.few, omega (arith, r.before, r.end_in))

  pub set_read : set_of (marks (route_at s 14 n) n) ≡ hop_set (decode Short s).frame
  set_read = rw (← (route Short s e).read) (hop-set_is (decode Short s).frame)

  pub due_read : due_place (decode Short s).frame < n
      → (repeater_at (decode Short s).frame.route (due_place (decode Short s).frame)).repeater ≡ (parsed_at s (14 + 7 * due_place (decode Short s).frame)).address
  due_read h = let r = route Short s e in rw r.read (place_read s 14 n (due_place (decode Short s).frame) h r.few).0

-- how the due place answers
pub due_none : (own : Address) (f : Ax25Frame) → due_place f ≡ f.route_count → due_answer own f ≡ Err RouteUsedUp
unfolding due_answer
due_none own f e = simp (eq-eqb (due_place f) f.route_count e)

pub due-broken : (own : Address) (f : Ax25Frame) → (due_place f ≡ f.route_count → ⊥) → broken f ≡ true → due_answer own f ≡ Err BrokenMarks
unfolding due_answer
due-broken own f n b = simp (ne_eqb (due_place f) f.route_count n, b)

pub due-other : (own : Address) (f : Ax25Frame) → (due_place f ≡ f.route_count → ⊥) → broken f ≡ false → ours own f ≡ false → due_answer own f ≡ Err AnotherStation
unfolding due_answer
due-other own f n b e = simp (ne_eqb (due_place f) f.route_count n, b, e)

pub due-ours : (own : Address) (f : Ax25Frame) → (due_place f ≡ f.route_count → ⊥) → broken f ≡ false → ours own f ≡ true → due_answer own f ≡ Ok tt
unfolding due_answer
due-ours own f n b e = simp (ne_eqb (due_place f) f.route_count n, b, e)

-- the answer in its order, and what each leaves
pub relay_stranger : (own : Address) (s : List ℕ) → encodable own ≡ false → relay_answer own s ≡ Err NotEncodable
unfolding relay_answer
relay_stranger own s h = simp h

pub relay-refused : (own : Address) (s : List ℕ) (r : DecodeError) → encodable own ≡ true → (decode Short s).answer ≡ Err r → relay_answer own s ≡ Err (Refused r)
unfolding relay_answer
relay-refused own s r h e = rw (h, e) refl

pub relay-accepted : (own : Address) (s : List ℕ) → encodable own ≡ true → is_accepted (decode Short s).answer ≡ true → relay_answer own s ≡ due_answer own (decode Short s).frame
unfolding relay_answer
relay-accepted own s h e = rw (h, answer_accepted (decode Short s).answer e) refl

pub relayed_by : (own : Address) (s : List ℕ) (a : RelayAnswer) → relay_answer own s ≡ a → relayed own s ≡ left_by a s
unfolding relayed
relayed_by own s a e = rw e refl

-- the station that C gives can be written where its octets and its SSID can
padded-low : (c : List ℕ) (ssid : ℕ) → length c ≤ 6 → all low (station_of c ssid).callsign ≡ all low c
unfolding station_of all
padded-low [] ssid h = refl
padded-low (a ∷ []) ssid h = refl
padded-low (a ∷ b ∷ []) ssid h = refl
padded-low (a ∷ b ∷ c ∷ []) ssid h = refl
padded-low (a ∷ b ∷ c ∷ d ∷ []) ssid h = refl
padded-low (a ∷ b ∷ c ∷ d ∷ e ∷ []) ssid h = refl
padded-low (a ∷ b ∷ c ∷ d ∷ e ∷ f ∷ []) ssid h = refl
padded-low (a ∷ b ∷ c ∷ d ∷ e ∷ f ∷ g ∷ r) ssid h = absurd (omega arith)

pub station-encodable : (c : List ℕ) (ssid : ℕ) → length c ≤ 6 → encodable (station_of c ssid) ≡ (leb ssid 15 && all low c)
unfolding station_of
station-encodable c ssid h = encodable_is (station_of c ssid) ∙ rw (padded-low c ssid h) refl

-- a callsign of at most six octets is that of the station; a longer one is refused
pub as_station : (c : List ℕ) (ssid : ℕ) (s : List ℕ) → length c ≤ 6 → relay_answer_as c ssid s ≡ relay_answer (station_of c ssid) s
unfolding relay_answer_as
as_station c ssid s h = rw (le-ltb 6 (length c) h) refl

pub as-refused : (c : List ℕ) (ssid : ℕ) (s : List ℕ) → 6 < length c → relay_answer_as c ssid s ≡ Err NotEncodable
unfolding relay_answer_as
as-refused c ssid s h = rw (lt-ltb 6 (length c) h) refl

pub left_as : (c : List ℕ) (ssid : ℕ) (s : List ℕ) (a : RelayAnswer) → relay_answer_as c ssid s ≡ a → relayed_as c ssid s ≡ left_by a s
unfolding relayed_as
left_as c ssid s a e = rw e refl
