-- The hop set by its bits, its ones and its first clear bit: bit i is set exactly where place i is marked, the ones are the marked
-- places, the first clear bit is the due place. The due place by the marks, when a mark follows it, and what one mark more makes of it.
use Prim.Native.Nat.{ℕ, zero, suc, ◌+◌, ◌-◌, ◌*◌, ◌/◌, ◌%◌, ◌^◌, ◌≤◌, ◌<◌}
use mathlib.Core.Path.{◌≡◌, refl, ap, sym, ◌∙◌}
use mathlib.Core.Bool.{Bool, true, false, true≢false, false≢true, not, not-not}
use mathlib.Core.List.{List, [], ◌∷◌}
use native.Mathlib.Nat.{pow-suc, zero-div, lt_of_lt_of_le}
use native.Mathlib.Numerals.{one-add}
use native.Mathlib.Omega.{arith}
use borrow.Author.Tests.{eq-eqb, ne_eqb, eqb-true, eqb-false, le-ltb, lt-ltb, ltb-true, ltb-false, not-true, not-false}
use lib.Count.{ones, ones_step}
use lib.Dec.{eqb, ltb, eqb-suc-suc}
use lib.ListN.{length, length-drop, length-set, get_or, set, drop, get_or-eq_default}
use lib.Pointwise.{pointwise}
use mir.Val.{bool_byte}
use lib.Pow.{shr-shr, pow_mono}
use lib.Seq.{drop-cons, get_or-drop, get_or-set_same, get_or-set_other, ext_get_or}
use Rattle.octets.specs.All.{all}
use Rattle.octets.specs.Count.{count}
use Rattle.octets.specs.First.{first}
use Rattle.octets.specs.Octet.{bit, flag}
use Rattle.octets.specs.Same.{same}
use Rattle.octets.proofs.All.{all_at, all_each}
use Rattle.octets.proofs.Choice.{by, both}
use Rattle.octets.proofs.First.{first_le, first_passes, first_before}
use Rattle.octets.proofs.Place.{of_eight}
use Rattle.octets.proofs.Same.{same_refl, same_eq}
use Rattle.address.specs.declared.Address.{Address}
use Rattle.frame.specs.Spell.{repeater_at, past}
use Rattle.frame.specs.declared.RouteEntry.{RouteEntry}
use Rattle.frame.specs.declared.Ax25Frame.{Ax25Frame}
use Rattle.hops.specs.Hops.{marked_at, marks, set_of, hop_set, hops_used, due_place, broken, first_clear}
use Rattle.hops.specs.Station.{same_station}

-- a mark as an octet
pub flagged : (b : Bool) → bool_byte b ≡ flag 0 b
flagged true = refl
flagged false = refl

-- what `==` of two arrays tells
pub same_is : (s t : List ℕ) → same s t ≡ pointwise eqb s t
unfolding same
same_is [] [] = refl
same_is [] (y ∷ t) = refl
same_is (x ∷ s) [] = refl
same_is (x ∷ s) (y ∷ t) = rw (same_is s t) refl

set_below : (ms : List Bool) → set_of ms < 2 ^ length ms
unfolding set_of
set_below [] = omega arith
set_below (true ∷ ms) = rw (pow-suc 2 (length ms)) (omega (arith, set_below ms))
set_below (false ∷ ms) = rw (pow-suc 2 (length ms)) (omega (arith, set_below ms))

marks_at : (route : List RouteEntry) (count i : ℕ) → i < 8 → get_or (marks route count) i false ≡ marked_at route count i
unfolding marks
marks_at route count i h = of_eight (marked_at route count) false i h

marks-length : (route : List RouteEntry) (count : ℕ) → length (marks route count) ≡ 8
unfolding marks
marks-length route count = refl

-- one place more, from the top down
set_more : (route : List RouteEntry) (count i : ℕ) → i < 8
    → set_of (drop (suc i) (marks route count)) * 2 + flag 0 (marked_at route count i) ≡ set_of (drop i (marks route count))
unfolding set_of
set_more route count i h =
    let l : i < length (marks route count) = rw marks-length h in
    rw (drop-cons (marks route count) i false l, marks_at route count i h)

-- as a loop has it that comes to place i - 1: the set with one place more, which fits an octet
pub set_turn : (route : List RouteEntry) (count i set : ℕ) → 0 < i → i ≤ 8 → set ≡ set_of (drop i (marks route count))
    → (set * 2 + flag 0 (marked_at route count (i - 1)) ≡ set_of (drop (i - 1) (marks route count)))
    × (set * 2 + flag 0 (marked_at route count (i - 1)) < 256)
set_turn route count i set some small is =
    let back : suc (i - 1) ≡ i = omega arith in
    let more = rw back at (set_more route count (i - 1) (omega arith)) in
    let e = rw (← is) at more in
    let few : length (drop (i - 1) (marks route count)) ≤ 8 = omega (arith, length-drop (i - 1) (marks route count), marks-length route count) in
    (e, rw e (lt_of_lt_of_le (set_below (drop (i - 1) (marks route count))) (pow_mono few)))

-- bit k of the set is element k of the list
half : (x : ℕ) (m : Bool) → (x * 2 + flag 0 m) / 2 ≡ x
half x true = omega arith
half x false = omega arith

set-bit : (ms : List Bool) (k : ℕ) → bit k (set_of ms) ≡ get_or ms k false
unfolding set_of
set-bit [] k = rw zero-div
set-bit (true ∷ ms) zero = eq-eqb ((set_of ms * 2 + 1) / 2 ^ 0 % 2) 1 (omega arith)
set-bit (false ∷ ms) zero = ne_eqb ((set_of ms * 2 + 0) / 2 ^ 0 % 2) 1 (λ e. omega arith)
set-bit (m ∷ ms) (suc k) =
    rw (← one-add k, ← shr-shr (set_of ms * 2 + flag 0 m) 1 k, half) (set-bit ms k)

-- the places from k on are the set shifted down by k
set-drop : (ms : List Bool) (k : ℕ) → set_of ms / 2 ^ k ≡ set_of (drop k ms)
unfolding set_of
set-drop [] zero = refl
set-drop [] (suc k) = rw zero-div
set-drop (m ∷ ms) zero = omega arith
set-drop (m ∷ ms) (suc k) = rw (← one-add k, ← shr-shr (set_of ms * 2 + flag 0 m) 1 k, half) (set-drop ms k)

-- the set is 0 where no place is marked
set_none : (ms : List Bool) → eqb (set_of ms) 0 ≡ all not ms
unfolding set_of all
set_none [] = refl
set_none (true ∷ ms) = ne_eqb (set_of ms * 2 + 1) 0 (λ e. omega arith)
set_none (false ∷ ms) =
    by (eqb (set_of ms) 0)
    (λ e. let z = eqb-true (set_of ms) 0 e in eq-eqb (set_of ms * 2 + 0) 0 (omega arith) ∙ sym e ∙ set_none ms)
    (λ e. let n = eqb-false (set_of ms) 0 e in ne_eqb (set_of ms * 2 + 0) 0 (λ q. n (omega arith)) ∙ sym e ∙ set_none ms)

-- its first clear bit is the first unmarked of eight places
clear_first : (ms : List Bool) → length ms ≡ 8 → first_clear (set_of ms) ≡ first not ms
unfolding first_clear
clear_first ms l =
    ap (first not) (ext_get_or false _ ms (sym l) (λ k h. of_eight (λ (j : ℕ). bit j (set_of ms)) false k h ∙ set-bit ms k))

-- the ones of the set are the marked places
set_ones : (ms : List Bool) → ones (set_of ms) ≡ count (λ (m : Bool). m) ms
unfolding set_of count ones
set_ones [] = refl
set_ones (true ∷ ms) =
    let low : (set_of ms * 2 + 1) % 2 ≡ 1 = omega arith in
    let rest : (set_of ms * 2 + 1) / 2 ≡ set_of ms = omega arith in
    ones_step (set_of ms * 2 + 1) ∙ rw (low, rest, set_ones ms) (omega arith)
set_ones (false ∷ ms) =
    let low : (set_of ms * 2 + 0) % 2 ≡ 0 = omega arith in
    let rest : (set_of ms * 2 + 0) / 2 ≡ set_of ms = omega arith in
    ones_step (set_of ms * 2 + 0) ∙ rw (low, rest, set_ones ms) (omega arith)

pub hop-bit : (f : Ax25Frame) (i : ℕ) → i < 8 → bit i (hop_set f) ≡ marked_at f.route f.route_count i
unfolding hop_set
hop-bit f i h = set-bit (marks f.route f.route_count) i ∙ marks_at f.route f.route_count i h

pub hop-set_is : (f : Ax25Frame) → set_of (marks f.route f.route_count) ≡ hop_set f
unfolding hop_set
hop-set_is f = refl

pub hops-marked : (f : Ax25Frame) → hops_used f ≡ count (λ (m : Bool). m) (marks f.route f.route_count)
unfolding hops_used hop_set
hops-marked f = set_ones (marks f.route f.route_count)

-- the mark of a place in use is that of its entry
pub marked_in : (route : List RouteEntry) (n i : ℕ) → i < n → marked_at route n i ≡ (repeater_at route i).has_repeated
unfolding marked_at
marked_in route n i h = rw (lt-ltb i n h) refl

-- of marks: there are as many as the first unmarked place where none follows it, and only there
none-count : (ms : List Bool) → eqb (count (λ (m : Bool). m) ms) 0 ≡ all not ms
unfolding count all
none-count [] = refl
none-count (true ∷ ms) = ne_eqb (suc (count (λ (m : Bool). m) ms)) 0 (λ e. omega arith)
none-count (false ∷ ms) = none-count ms

count-first : (ms : List Bool) → eqb (count (λ (m : Bool). m) ms) (first not ms) ≡ all not (drop (first not ms) ms)
unfolding count first all
count-first [] = refl
count-first (true ∷ ms) = eqb-suc-suc (count (λ (m : Bool). m) ms) (first not ms) ∙ count-first ms
count-first (false ∷ ms) = none-count ms

-- where none is marked, the first is unmarked
none_first : (ms : List Bool) → all not ms ≡ true → first not ms ≡ 0
unfolding all first
none_first [] e = refl
none_first (true ∷ ms) e = absurd (false≢true e)
none_first (false ∷ ms) e = refl

-- the first unmarked place marked, where no mark follows it: the next one is the first, and no mark follows it
first_next : (ms : List Bool) → first not ms < length ms → all not (drop (first not ms) ms) ≡ true
    → (first not (set ms (first not ms) true) ≡ suc (first not ms)) × (all not (drop (suc (first not ms)) (set ms (first not ms) true)) ≡ true)
unfolding first all
first_next [] h e = absurd (omega arith)
first_next (true ∷ ms) h e =
    let rest = first_next ms (omega arith) e in
    (ap suc rest.0, rest.1)
first_next (false ∷ ms) h e = (ap suc (none_first ms e), e)

marked_other : (route : List RouteEntry) (n i : ℕ) (x : RouteEntry) (k : ℕ) → (k ≡ i → ⊥) → marked_at (set route i x) n k ≡ marked_at route n k
unfolding marked_at
marked_other route n i x k d = rw (get_or-set_other route i k x past d) refl

-- one mark more in the route is one more among the marks
marks-set : (route : List RouteEntry) (n i : ℕ) (x : RouteEntry) → i < n → i < 8 → i < length route → x.has_repeated ≡ true
    → marks (set route i x) n ≡ set (marks route n) i true
marks-set route n i x h l m e =
    ext_get_or false (marks (set route i x) n) (set (marks route n) i true) (rw (marks-length, length-set, marks-length) refl)
    (λ k b. let k8 : k < 8 = rw marks-length at b in
    marks_at (set route i x) n k k8
    ∙ by (eqb k i)
    (λ q. let s : k ≡ i = eqb-true k i q in
    rw s (marked_in (set route i x) n i h ∙ rw (get_or-set_same route i x past m) e ∙ sym (get_or-set_same (marks route n) i true false (rw marks-length l))))
    (λ q. let d = eqb-false k i q in
    marked_other route n i x k d ∙ sym (marks_at route n k k8) ∙ sym (get_or-set_other (marks route n) i k true false d)))

-- no place past the count is marked
marks-past : (route : List RouteEntry) (n k : ℕ) → n ≤ k → get_or (marks route n) k false ≡ false
unfolding marked_at
marks-past route n k h =
    by (ltb k 8)
    (λ e. marks_at route n k (ltb-true k 8 e) ∙ rw (le-ltb k n h))
    (λ e. get_or-eq_default (marks route n) false (rw marks-length (ltb-false k 8 e)))

-- so that a loop from the count down starts with the empty set
pub set_past : (route : List RouteEntry) (n : ℕ) → set_of (drop n (marks route n)) ≡ 0
set_past route n =
    eqb-true _ 0
    (set_none (drop n (marks route n))
    ∙ all_each not (drop n (marks route n)) false (λ k _. rw (get_or-drop n (marks route n) k false, marks-past route n (n + k) (omega arith)) refl))

module _ (f : Ax25Frame) where
  abbrev n : ℕ
  n = f.route_count

  abbrev ms : List Bool
  ms = marks f.route n

  -- the due place is the first clear bit of the hop set
  pub due_clear : first_clear (hop_set f) ≡ due_place f
  unfolding hop_set due_place
  due_clear = clear_first ms (marks-length f.route n)

  -- it is at most 8 and at most the count; the places before it are marked, and it is not
  pub due_eight : due_place f ≤ 8
  unfolding due_place
  due_eight = omega (arith, first_le not ms, marks-length f.route n)

  pub due_before : (k : ℕ) → k < due_place f → marked_at f.route n k ≡ true
  unfolding due_place
  due_before k h =
      sym (marks_at f.route n k (omega (arith, first_le not ms, marks-length f.route n))) ∙ not-false _ (first_before not ms false k h)

  pub due_within : due_place f ≤ n
  unfolding due_place
  due_within =
      by (ltb n (first not ms))
      (λ e. absurd (true≢false (sym (not-false _ (first_before not ms false n (ltb-true n _ e))) ∙ marks-past f.route n n (omega arith))))
      (λ e. ltb-false n _ e)

  pub due_free : due_place f < 8 → marked_at f.route n (due_place f) ≡ false
  unfolding due_place
  due_free h =
      sym (marks_at f.route n _ h) ∙ not-true _ (first_passes not ms false (rw marks-length h))

  -- no mark follows it exactly when no place from it on is marked
  pub whole_from : broken f ≡ false → (k : ℕ) → due_place f ≤ k → k < 8 → marked_at f.route n k ≡ false
  unfolding broken
  whole_from w k h l =
      let d : due_place f + (k - due_place f) ≡ k = omega arith in
      let in_rest : k - due_place f < length (drop (due_place f) ms) = omega (arith, length-drop (due_place f) ms, marks-length f.route n) in
      let e = all_at not (drop (due_place f) ms) false (k - due_place f) in_rest (not-false _ w) in
      sym (marks_at f.route n k l) ∙ not-true _ (rw (get_or-drop (due_place f) ms (k - due_place f) false, d) at e)

  pub whole_by : ((k : ℕ) → due_place f ≤ k → k < 8 → marked_at f.route n k ≡ false) → broken f ≡ false
  unfolding broken
  whole_by none =
      rw (all_each not (drop (due_place f) ms) false
      (λ k h. let l : due_place f + k < 8 = omega (arith, length-drop (due_place f) ms, marks-length f.route n) in
      rw (get_or-drop (due_place f) ms k false, marks_at f.route n (due_place f + k) l, none (due_place f + k) (omega arith) l) refl)) refl

  -- and none does where all places in use are marked
  pub whole-used : due_place f ≡ n → broken f ≡ false
  whole-used e = whole_by (λ k h l. sym (marks_at f.route n k l) ∙ marks-past f.route n k (omega arith))

  -- as the code has it: of the hop set nothing is left above the due place
  pub broken-set : eqb (hop_set f / 2 ^ due_place f) 0 ≡ not (broken f)
  unfolding hop_set broken
  broken-set = rw (set-drop ms (due_place f)) (set_none (drop (due_place f) ms) ∙ sym (not-not _))

  -- the hops used are as many as the due place exactly then
  pub used-due : eqb (hops_used f) (due_place f) ≡ not (broken f)
  unfolding due_place broken
  used-due = rw (hops-marked f) (count-first ms ∙ sym (not-not _))

-- a frame in which no mark follows the due place, with the mark of that place set: the next place is due, and no mark follows it
pub due_next : (f g : Ax25Frame) (x : RouteEntry) → broken f ≡ false
    → due_place f < f.route_count → due_place f < 8 → due_place f < length f.route → x.has_repeated ≡ true
    → g.route ≡ set f.route (due_place f) x → g.route_count ≡ f.route_count → (due_place g ≡ suc (due_place f)) × (broken g ≡ false)
unfolding due_place broken
due_next f g x w h l m e r c =
    let same : marks g.route g.route_count ≡ set (marks f.route f.route_count) (first not (marks f.route f.route_count)) true =
    rw (r, c) (marks-set f.route f.route_count _ x h l m e) in
    let next = first_next (marks f.route f.route_count) (rw marks-length l) (not-false _ w) in
    (rw same next.0, rw (same, next.0) (ap not next.1))

-- two stations are equal exactly when callsign and SSID are
pub station-same : (a b : Address) → a.callsign ≡ b.callsign → a.ssid ≡ b.ssid → same_station a b ≡ true
unfolding same_station
station-same a b p q = rw (p, q, same_refl b.callsign, eq-eqb b.ssid b.ssid refl)

pub station_eq : (a b : Address) → same_station a b ≡ true → (a.callsign ≡ b.callsign) × (a.ssid ≡ b.ssid)
unfolding same_station
station_eq a b e =
    let s = both (eqb a.ssid b.ssid) (same a.callsign b.callsign) e in
    (same_eq a.callsign b.callsign s.1, eqb-true a.ssid b.ssid s.0)
