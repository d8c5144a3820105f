-- Document 02, M-100 and M-102, proved: each number of relaying is given exactly when its row is the first that holds; a refusal leaves the
-- octets; what is relayed is as `Relayed` says; and what a second relay by the same station answers.
use Prim.Native.Nat.{ℕ, zero, suc, ◌<◌}
use mathlib.Core.Path.{◌≡◌, refl, ap, sym, ◌∙◌}
use mathlib.Core.Bool.{Bool, true, false, true≢false, false≢true, cond, not, ◌||◌}
use mathlib.Core.List.{List, [], ◌∷◌, ◌++◌}
use mathlib.Core.Logic.{◌↔◌}
use native.Mathlib.Omega.{arith}
use borrow.Author.Tests.{eq-eqb, eqb-true, eqb-false, ltb-true, ltb-false, lt-ltb, le-ltb, leb-true, leb-false}
use lib.Dec.{eqb, ltb, leb}
use lib.ListN.{length, length-set, get_or, set}
use lib.Seq.{get_or-set_same, get_or-set_other, ext_get_or}
use Rattle.octets.specs.Octet.{Octets, field, bit}
use Rattle.octets.specs.All.{all}
use Rattle.octets.proofs.Choice.{by}
use Rattle.octets.proofs.Place.{of_eight}
use Rattle.address.specs.Address.{low, encodable}
use Rattle.address.specs.declared.Address.{Address}
use Rattle.frame.specs.Spell.{repeater_at, past}
use Rattle.frame.specs.declared.RouteEntry.{RouteEntry}
use Rattle.frame.specs.declared.Ax25Frame.{Ax25Frame}
use Rattle.decode.specs.Answer.{number_of, is_accepted}
use Rattle.decode.specs.Read.{decode, Decoding}
use Rattle.decode.proofs.Read.{zero-accepted}
use Rattle.grammar.proofs.Numbers.{decode-rows}
use Rattle.grammar.proofs.Marks.{remarked, route, route-length, place_read, decode-marked, info-marked, direct-marked}
use Rattle.hops.specs.Hops.{due_place, broken}
use Rattle.hops.specs.Station.{same_station}
use Rattle.hops.proofs.Laws.{marked_in, due_within, due_free, due_next}
use Rattle.octets.specs.Outcome.{number_by}
use Rattle.relay.specs.Relay.{RelayAnswer, error_number, report_of, used_up, ours, due_answer, relay_answer, due_mark, or_mark, left_by, relayed, station_of, relay_answer_as, relayed_as}
use Rattle.std.specs.Prelude.{Ok, Err}
use Rattle.decode.proofs.Read.{answer_refused}
use Rattle.relay.proofs.Laws.{groups_inside, due_none, due-broken, due-other, due-ours, relay_stranger, relay-refused, relay-accepted, relayed_by, station-encodable, as_station, as-refused, left_as}
use Rattle.spelling.specs.Canonical.{canonical}
use Rattle.spelling.proofs.Laws.{canonical_direct}
use Rattle.octets.specs.Table.{Table, given, FirstRow}
use Rattle.demands.specs.Numbers.{decode_table}
use Rattle.demands.specs.Relay.{due_rows, relay_rows, relay_table, bad_station, place_marked, frame_marked, Relayed, Again}
use Rattle.octets.proofs.Table.{exactly}
use Rattle.control.specs.declared.Mode.TheVariants.{Short}

-- the number of an answer
abbrev numbered : RelayAnswer → ℕ
numbered a = (report_of a).number

-- which is the number that the code gives of it
pub numbered_is : (a : RelayAnswer) → number_by error_number a ≡ numbered a
numbered_is (Ok u) = refl
numbered_is (Err e) = refl

-- one table after another whose numbers are not 0: the first decides, unless none of its rows holds
given-append : (a b : Table) → all (λ (row : ℕ × Bool). not (eqb row.0 0)) a ≡ true → given (a ++ b) ≡ cond (eqb (given a) 0) (given b) (given a)
unfolding given all
given-append [] b e = refl
given-append (row ∷ a) b e =
    let nonzero : eqb row.0 0 ≡ false = by (eqb row.0 0) (λ z. absurd (false≢true (rw z at e))) (λ z. z) in
    let rest : all (λ (r : ℕ × Bool). not (eqb r.0 0)) a ≡ true = rw nonzero at e in
    by row.1 (λ t. rw (t, nonzero) refl) (λ t. rw t (given-append a b rest))

decoded-rows : (s : List ℕ) → given (decode_table Short s) ≡ number_of (decode Short s).answer
unfolding given
decoded-rows s = sym (decode-rows Short s)

-- how the rows go on after decoding's
rows-due : (own : Address) (s : List ℕ)
    → given (decode_table Short s ++ due_rows own (decode Short s).frame)
    ≡ cond (is_accepted (decode Short s).answer) (numbered (due_answer own (decode Short s).frame)) (number_of (decode Short s).answer)
unfolding given all due_answer
rows-due own s =
    let f = (decode Short s).frame in
    given-append (decode_table Short s) (due_rows own f) refl
    ∙ rw (decoded-rows s, zero-accepted)
    (by (used_up f) (λ u. rw u refl) (λ u. rw u (by (broken f) (λ b. rw b refl) (λ b. rw b (by (ours own f) (λ o. rw o refl) (λ o. rw o refl))))))

-- what is refused by decoding has its number
refused_row : (own : Address) (s : List ℕ) → encodable own ≡ true → is_accepted (decode Short s).answer ≡ false
    → numbered (relay_answer own s) ≡ number_of (decode Short s).answer
refused_row own s h e =
    let p = answer_refused (decode Short s).answer e in
    ap numbered (relay-refused own s p.0 h p.1) ∙ ap number_of (sym p.1)

relay-rows : (own : Address) (s : List ℕ) → numbered (relay_answer own s) ≡ given (relay_table own s)
unfolding given
relay-rows own s =
    by (encodable own)
    (λ h. rw (h, rows-due own s)
    (by (is_accepted (decode Short s).answer)
    (λ e. rw (e, relay-accepted own s h e) refl)
    (λ e. rw e (refused_row own s h e))))
    (λ h. rw (h, relay_stranger own s h) refl)

-- each number is given exactly when its row is the first that holds
pub relaying : (own : Address) (s : List ℕ) (n : ℕ) → (numbered (relay_answer own s) ≡ n) ↔ FirstRow (relay_table own s) n
relaying own s n = rw (relay-rows own s) (exactly (relay_table own s) n)

-- and so by callsign and SSID
bad_is : (c : List ℕ) (ssid : ℕ) → ltb 6 (length c) ≡ false → not (encodable (station_of c ssid)) ≡ bad_station c ssid
bad_is c ssid h =
    rw (station-encodable c ssid (ltb-false 6 (length c) h), h)
    (by (leb ssid 15)
    (λ l. rw (l, le-ltb 15 ssid (leb-true ssid 15 l)) (by (all low c) (λ a. rw a refl) (λ a. rw a refl)))
    (λ l. rw (l, lt-ltb 15 ssid (leb-false ssid 15 l)) (by (all low c) (λ a. rw a refl) (λ a. rw a refl))))

as_rows : (c : List ℕ) (ssid : ℕ) (s : List ℕ) → numbered (relay_answer_as c ssid s) ≡ given (relay_rows (bad_station c ssid) (station_of c ssid) s)
unfolding given
as_rows c ssid s =
    by (ltb 6 (length c))
    (λ h. rw (as-refused c ssid s (ltb-true 6 (length c) h), h) refl)
    (λ h. rw (as_station c ssid s (ltb-false 6 (length c) h), ← bad_is c ssid h) (relay-rows (station_of c ssid) s))

pub relaying_as : (c : List ℕ) (ssid : ℕ) (s : List ℕ) (n : ℕ)
    → (numbered (relay_answer_as c ssid s) ≡ n) ↔ FirstRow (relay_rows (bad_station c ssid) (station_of c ssid) s) n
relaying_as c ssid s n = rw (as_rows c ssid s) (exactly (relay_rows (bad_station c ssid) (station_of c ssid) s) n)

-- what a 0 rests on
record Due (own : Address) (s : List ℕ) : Type 0 where
  able : encodable own ≡ true
  accepted : is_accepted (decode Short s).answer ≡ true
  inner : due_place (decode Short s).frame < (decode Short s).frame.route_count
  whole : broken (decode Short s).frame ≡ false
  is : relay_answer own s ≡ Ok tt

due_by : (own : Address) (s : List ℕ) → numbered (relay_answer own s) ≡ 0 → Due own s
due_by own s z =
    by (encodable own)
    (λ h. by (is_accepted (decode Short s).answer)
    (λ e. let f : Ax25Frame = (decode Short s).frame in
    let d = rw (relay-accepted own s h e) at z in
    by (eqb (due_place f) f.route_count)
    (λ u. absurd (omega (arith, rw (due_none own f (eqb-true _ _ u)) at d)))
    (λ u. let n = eqb-false (due_place f) f.route_count u in
    by (broken f)
    (λ b. absurd (omega (arith, rw (due-broken own f n b) at d)))
    (λ b. by (ours own f)
    (λ o. record { able = h; accepted = e; inner = omega (arith, due_within f, n); whole = b; is = relay-accepted own s h e ∙ due-ours own f n b o })
    (λ o. absurd (omega (arith, rw (due-other own f n b o) at d))))))
    (λ e. let d = sym (refused_row own s h e) ∙ z in
    absurd (true≢false (sym (eq-eqb _ _ d) ∙ zero-accepted (decode Short s).answer ∙ e))))
    (λ h. absurd (omega (arith, rw (relay_stranger own s h) at z)))

-- a refusal leaves the octets as they were
left-refused : (a : RelayAnswer) (s : List ℕ) → (numbered a ≡ 0 → ⊥) → left_by a s ≡ s
left-refused (Ok u) s n = absurd (n refl)
left-refused (Err e) s n = refl

pub refused_relay : (own : Address) (s : List ℕ) → (numbered (relay_answer own s) ≡ 0 → ⊥) → relayed own s ≡ s
refused_relay own s n = relayed_by own s _ refl ∙ left-refused (relay_answer own s) s n

-- the octet that the mark is set in
mark-low : (b : ℕ) → field 0 7 (or_mark b) ≡ field 0 7 b
mark-low b = omega arith

mark-high : (b : ℕ) → bit 7 (or_mark b) ≡ true
mark-high b = eq-eqb (field 7 1 (or_mark b)) 1 (omega arith)

mark_bits : (b j : ℕ) → j < 7 → bit j (or_mark b) ≡ bit j b
mark_bits b zero h = let e : field 0 1 (or_mark b) ≡ field 0 1 b = omega arith in rw e refl
mark_bits b (suc zero) h = let e : field 1 1 (or_mark b) ≡ field 1 1 b = omega arith in rw e refl
mark_bits b (suc (suc zero)) h = let e : field 2 1 (or_mark b) ≡ field 2 1 b = omega arith in rw e refl
mark_bits b (suc (suc (suc zero))) h = let e : field 3 1 (or_mark b) ≡ field 3 1 b = omega arith in rw e refl
mark_bits b (suc (suc (suc (suc zero)))) h = let e : field 4 1 (or_mark b) ≡ field 4 1 b = omega arith in rw e refl
mark_bits b (suc (suc (suc (suc (suc zero))))) h = let e : field 5 1 (or_mark b) ≡ field 5 1 b = omega arith in rw e refl
mark_bits b (suc (suc (suc (suc (suc (suc zero)))))) h = let e : field 6 1 (or_mark b) ≡ field 6 1 b = omega arith in rw e refl
mark_bits b (suc (suc (suc (suc (suc (suc (suc j))))))) h = absurd (omega arith)

or_true : (b : Bool) → (b || true) ≡ true
or_true true = refl
or_true false = refl

or_false : (b : Bool) → (b || false) ≡ b
or_false true = refl
or_false false = refl

-- a route with one entry marked, place by place
places-marked : (route : List RouteEntry) (i : ℕ) → length route ≡ 8 → i < 8
    → set route i (record { repeater = (repeater_at route i).repeater; has_repeated = true })
    ≡ place_marked route i 0 ∷ place_marked route i 1 ∷ place_marked route i 2 ∷ place_marked route i 3
    ∷ place_marked route i 4 ∷ place_marked route i 5 ∷ place_marked route i 6 ∷ place_marked route i 7 ∷ []
places-marked route i l h =
    ext_get_or past _ _ (rw (length-set, l) refl)
    (λ k b. let k8 : k < 8 = rw (length-set, l) at b in
    by (eqb k i)
    (λ q. let e : k ≡ i = eqb-true k i q in
    rw e (get_or-set_same route i _ past (rw l h) ∙ sym (of_eight (place_marked route i) past i h ∙ rw (eq-eqb i i refl, or_true) refl)))
    (λ q. get_or-set_other route i k _ past (eqb-false k i q) ∙ sym (of_eight (place_marked route i) past k k8 ∙ rw (q, or_false) refl)))

module _ (own : Address) (s : List ℕ) (z : numbered (relay_answer own s) ≡ 0) where
  abbrev f : Ax25Frame
  f = (decode Short s).frame

  abbrev i : ℕ
  i = due_place f

  abbrev p : ℕ
  p = due_mark s

  abbrev b : ℕ
  b = get_or s p 0

  abbrev t : List ℕ
  t = set s p (or_mark b)

  d : Due own s
  d = due_by own s z

  left : relayed own s ≡ t
  left = relayed_by own s (Ok tt) d.is

  within : (i < 8) × (p < length s)
  within = let g = groups_inside s d.accepted in (omega (arith, d.inner, g.0), omega (arith, d.inner, g.1))

  eight-places : length f.route ≡ 8
  eight-places = rw (route Short s d.accepted).read (route-length s 14 f.route_count)

  read_again : decode Short t ≡ record {
    answer = (decode Short s).answer;
    frame = remarked f i true;
    info_start = (decode Short s).info_start;
    info_len = (decode Short s).info_len;
  }
  read_again = decode-marked Short s d.accepted i (or_mark b) d.inner (mark-low b) ∙ rw (mark-high b) refl

  frame-again : remarked f i true ≡ frame_marked f i
  unfolding frame_marked
  frame-again = rw (places-marked f.route i eight-places within.0) refl

  again-accepted : is_accepted (decode Short t).answer ≡ true
  again-accepted = rw read_again d.accepted

  octets-again : Octets s → Octets t
  octets-again o k =
      by (eqb k p)
      (λ e. let q : k ≡ p = eqb-true k p e in rw (q, get_or-set_same s p (or_mark b) 0 within.1) (omega arith))
      (λ e. rw (get_or-set_other s p k (or_mark b) 0 (eqb-false k p e)) (o k))

  same-canonical : Octets s → canonical Short t ≡ canonical Short s
  same-canonical o =
      canonical_direct Short t (octets-again o) again-accepted
      ∙ direct-marked Short s d.accepted i (or_mark b) d.inner (mark-low b)
      ∙ sym (canonical_direct Short s o d.accepted)

  -- the mark was not set
  clear_before : bit 7 b ≡ false
  clear_before =
      let r = route Short s d.accepted in
      sym (place_read s 14 f.route_count i d.inner r.few).1
      ∙ rw (← r.read) (sym (marked_in f.route f.route_count i d.inner) ∙ due_free f within.0)

  -- what is relayed
  pub relayed_is : Octets s → Relayed s (relayed own s)
  relayed_is o = rw left (record {
    as_long = length-set s p (or_mark b);
    others = λ k n. get_or-set_other s p k (or_mark b) 0 n;
    bits = λ j h. rw (get_or-set_same s p (or_mark b) 0 within.1) (mark_bits b j h);
    clear = clear_before;
    mark = rw (get_or-set_same s p (or_mark b) 0 within.1) (mark-high b);
    answer = ap (λ (x : Decoding). x.answer) read_again;
    frame = ap (λ (x : Decoding). x.frame) read_again ∙ frame-again;
    info = rw read_again (info-marked Short s d.accepted i (or_mark b) d.inner (mark-low b));
    canonical = same-canonical o;
  })

  -- a second relay by the same station
  next : (due_place (decode Short t).frame ≡ suc i) × (broken (decode Short t).frame ≡ false)
  next =
      due_next f (decode Short t).frame _ d.whole d.inner within.0 (rw eight-places within.0) refl
      (ap (λ (x : Decoding). x.frame.route) read_again) (ap (λ (x : Decoding). x.frame.route_count) read_again)

  same_count : (decode Short t).frame.route_count ≡ f.route_count
  same_count = ap (λ (x : Decoding). x.frame.route_count) read_again

  next_repeater : repeater_at (decode Short t).frame.route (suc i) ≡ repeater_at f.route (suc i)
  next_repeater = rw read_again (get_or-set_other f.route i (suc i) _ past (λ e. omega (arith, e)))

  whose : ours own (decode Short t).frame ≡ same_station own (repeater_at f.route (suc i)).repeater
  whose = rw (next.0, next_repeater) refl

  again : relay_answer own (relayed own s) ≡ due_answer own (decode Short t).frame
  again = rw left (relay-accepted own t d.able again-accepted)

  pub relayed-again : Again own f (numbered (relay_answer own (relayed own s)))
  relayed-again = rw again (record {
    none = λ e. rw (due_none own (decode Short t).frame (next.0 ∙ e ∙ sym same_count)) refl;
    another = λ n e. rw (due-other own (decode Short t).frame (λ q. n (sym next.0 ∙ q ∙ same_count)) next.1 (whose ∙ e)) refl;
    ours = λ n e. rw (due-ours own (decode Short t).frame (λ q. n (sym next.0 ∙ q ∙ same_count)) next.1 (whose ∙ e)) refl;
  })

-- canonicity stays, whatever the answer is
pub relayed-canonical : (own : Address) (s : List ℕ) → Octets s → canonical Short (relayed own s) ≡ canonical Short s
relayed-canonical own s o =
    by (eqb (numbered (relay_answer own s)) 0)
    (λ e. (relayed_is own s (eqb-true _ _ e) o).canonical)
    (λ e. rw (refused_relay own s (eqb-false _ _ e)) refl)

-- the same by callsign and SSID
module _ (c : List ℕ) (ssid : ℕ) (s : List ℕ) where
  pub refused_relay_as : (numbered (relay_answer_as c ssid s) ≡ 0 → ⊥) → relayed_as c ssid s ≡ s
  refused_relay_as n = left_as c ssid s _ refl ∙ left-refused (relay_answer_as c ssid s) s n

  pub relayed_as_is : numbered (relay_answer_as c ssid s) ≡ 0 → Octets s → Relayed s (relayed_as c ssid s)
  relayed_as_is z o =
      by (ltb 6 (length c))
      (λ h. absurd (omega (arith, rw (as-refused c ssid s (ltb-true 6 (length c) h)) at z)))
      (λ h. let same = as_station c ssid s (ltb-false 6 (length c) h) in
      let left : relayed_as c ssid s ≡ relayed (station_of c ssid) s = left_as c ssid s _ same ∙ sym (relayed_by (station_of c ssid) s _ refl) in
      rw left (relayed_is (station_of c ssid) s (rw same at z) o))
