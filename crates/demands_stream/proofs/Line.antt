-- A line is read as the packets that stand on it: cut at each C0, and M-103's reader on what stands between two.
use Prim.Native.Nat.{ℕ, suc, ◌+◌, ◌≤◌}
use mathlib.Core.Path.{◌≡◌, refl, sym, ap, ◌∙◌}
use mathlib.Core.Bool.{Bool, true, false, cond, false≢true}
use mathlib.Core.List.{List, [], ◌∷◌, ◌++◌, append_assoc, append-nil}
use mathlib.Core.Logic.{◌⊎◌, inl, inr}
use native.Mathlib.Omega.{arith}
use borrow.Author.Tests.{eqb-true, ltb-true, ltb-false, lt-ltb, le-ltb, le-leb, leb-true}
use Rattle.std.specs.Prelude.{Option, Some, None, is_ok}
use lib.Dec.{eqb, ltb}
use lib.ListN.{length, length-set}
use lib.Seq.{append_snoc}
use Rattle.octets.specs.Count.{count}
use Rattle.octets.proofs.Choice.{by, either, both}
use Rattle.escapes.specs.Escape.{fend, fesc, tfend, tfesc}
use Rattle.kiss_reading.specs.Answer.{Reading, octets_given}
use Rattle.kiss_reading.specs.Read.{heard, read_packet}
use Rattle.kiss_reading.proofs.Judged.{more_ok, accepted_read}
use Rattle.demands_kiss.proofs.Spelling.{heard_close, heard-plain, heard_last, heard-tfend, heard-tfesc, heard-stray}
use Rattle.kiss_state.specs.declared.Head.{Head}
use Rattle.kiss_state.specs.State.{room, outside, opened, in_data, in_escape, in_type}
use Rattle.kiss_octet.specs.declared.Move.{Move}
use Rattle.kiss_state.specs.declared.Stream.{Stream}
use Rattle.kiss_octet.specs.Step.{last_count, counted_of, drop_of, stray_of, unescaped, outside_of, opened_of, data_of, move_of, stored, stored_by, step_of, gives}
use Rattle.kiss_octet.proofs.Laws.{move_by, idle_move}
use Rattle.demands_stream.specs.Run.{Run, packet_in, run_of, then}
use Rattle.demands_stream.specs.Line.{own, whole, spoilt, between, cut_at_fend, given_out, at_most}
use Rattle.demands_stream.proofs.Cut.{run_cut, given_stream}
use Rattle.demands_stream.proofs.Between.{NoFend, Opened, closed}

-- ---- the array, C0, and all other octets
stored-length : (m : Move) (at : ℕ) (o : List ℕ) → length (stored_by m at o) ≡ length o
unfolding stored_by
stored-length m at o = by_octet m.octet
  where
    by_octet : (b : Option ℕ) → length (stored b at o) ≡ length o
    by_octet None = refl
    by_octet (Some b) = length-set o at b

step_array : (s : Stream) (b : ℕ) → length (step_of s b).octets ≡ length s.octets
unfolding step_of
step_array s b = stored-length (move_of s.head b) s.head.length s.octets

pub run_array : (l : List ℕ) (s : Stream) → length (run_of s l).stream.octets ≡ length s.octets
unfolding run_of
run_array [] s = refl
run_array (b ∷ l) s = rw (given_stream (gives s b) (step_of s b) (run_of (step_of s b) l)) (run_array l (step_of s b) ∙ step_array s b)

-- from every state C0 opens a packet
fend_phase : (h : Head) → (move_of h fend).head.phase ≡ opened
unfolding move_of data_of opened_of unescaped stray_of drop_of outside_of
fend_phase h =
    let Opens : Move → Type 0 = λ m. m.head.phase ≡ opened in
    either Opens (eqb h.phase in_data) (λ _. refl) (λ _.
    either Opens (eqb h.phase opened) (λ e. eqb-true h.phase opened e) (λ _.
    either Opens (eqb h.phase in_escape) (λ _. refl) (λ _. either Opens (eqb h.phase in_type) (λ _. refl) (λ _. refl))))

fend_opens : (s : Stream) → length s.octets ≡ room → Opened (step_of s fend)
unfolding step_of
fend_opens s a = record { array = step_array s fend ∙ a; phase = fend_phase s.head }

-- no other octet gives out a packet
not-given : (s : Stream) (b : ℕ) → eqb b fend ≡ false → gives s b ≡ false
unfolding gives
not-given s b f =
    move_by s.head b (λ m. m.ready ≡ false) (record {
      same = refl;
      opens = refl;
      waits = λ _ _. refl;
      drops = λ _ _. refl;
      starts = λ _ _. refl;
      stores = λ _ _. refl;
      closes = λ e. absurd (false≢true (sym f ∙ e));
    })

quiet_run : (t : List ℕ) (s : Stream) → NoFend t → (run_of s t).packets ≡ []
unfolding run_of
quiet_run [] s q = refl
quiet_run (b ∷ t) s q = rw (not-given s b q.0) (quiet_run t (step_of s b) q.1)

no-fend-more : (t : List ℕ) (x : ℕ) → NoFend t → eqb x fend ≡ false → NoFend (t ++ (x ∷ []))
no-fend-more [] x q f = (f, tt)
no-fend-more (y ∷ t) x q f = (q.0, no-fend-more t x q.1 f)

-- ---- behind a C0
out-cons : (t : List ℕ) (ts : List (List ℕ)) → cond (whole t) (read_packet (own t) ∷ []) [] ++ given_out ts ≡ given_out (t ∷ ts)
unfolding given_out
out-cons t ts = cases (whole t)
  where
    cases : (w : Bool) → cond w (read_packet (own t) ∷ []) [] ++ given_out ts ≡ cond w (read_packet (own t) ∷ given_out ts) (given_out ts)
    cases true = refl
    cases false = refl

-- a packet closed, and the line behind it
fend_cut : (since l : List ℕ) (s : Stream) → run_of s (since ++ (fend ∷ l)) ≡ then (run_of s (since ++ (fend ∷ []))) (run_of (run_of s (since ++ (fend ∷ []))).stream l)
fend_cut since l s = ap (run_of s) (sym (append_snoc since fend l)) ∙ run_cut (since ++ (fend ∷ [])) s l

between_run : (l since : List ℕ) (s : Stream) → Opened s → NoFend since → (run_of s (since ++ l)).packets ≡ given_out (between since l)
unfolding between given_out
between_run [] since s k q = rw append-nil (quiet_run since s q)
between_run (x ∷ l) since s k q =
    by (eqb x fend)
    (λ e. let c = closed s since k q in
    rw (e, eqb-true x fend e, fend_cut since l s, c.packets, between_run l [] (run_of s (since ++ (fend ∷ []))).stream c.opens tt) (out-cons since (between [] l)))
    (λ e. rw e (ap (λ (t : List ℕ). (run_of s t).packets) (sym (append_snoc since x l)) ∙ between_run l (since ++ (x ∷ [])) s k (no-fend-more since x q e)))

-- how many have been dropped, at a C0: one for each that is neither whole nor nothing, and no more than the count can hold
counted-most : (n k : ℕ) → n ≤ last_count → (counted_of n ≤ last_count) × (at_most last_count (counted_of n + k) ≡ at_most last_count (n + suc k))
unfolding counted_of
counted-most n k h =
    by (ltb n last_count)
    (λ e. let l = ltb-true n last_count e in
    let same : n + 1 + k ≡ n + suc k = omega arith in
    rw (e, same) (omega arith, refl))
    (λ e. let l = ltb-false n last_count e in
    let full : n ≡ last_count = omega arith in
    rw (e, full) (omega arith, at_last k))
  where
    at_last : (j : ℕ) → at_most last_count (last_count + j) ≡ at_most last_count (last_count + suc j)
    at_last j = rw (lt-ltb last_count (last_count + suc j) (omega arith)) (stops (ltb last_count (last_count + j)) refl)
      where
        stops : (b : Bool) → ltb last_count (last_count + j) ≡ b → cond (ltb last_count (last_count + j)) last_count (last_count + j) ≡ last_count
        stops true e = rw e refl
        stops false e = rw e (omega (arith, ltb-false last_count (last_count + j) e))

count-cons : (t : List ℕ) (ts : List (List ℕ)) → count spoilt (t ∷ ts) ≡ cond (spoilt t) (suc (count spoilt ts)) (count spoilt ts)
unfolding count
count-cons t ts = refl

count-nil : count spoilt [] ≡ 0
unfolding count
count-nil = refl

one-counted : (b : Bool) (n k : ℕ) → n ≤ last_count
    → (cond b (counted_of n) n ≤ last_count) × (at_most last_count (cond b (counted_of n) n + k) ≡ at_most last_count (n + cond b (suc k) k))
one-counted true n k h = counted-most n k h
one-counted false n k h = (h, refl)

at-most_least : (n : ℕ) → n ≤ last_count → n ≡ at_most last_count (n + 0)
at-most_least n h = let same : n + 0 ≡ n = omega arith in rw (same, le-ltb last_count n h) refl

between-count : (l since : List ℕ) (s : Stream) → Opened s → NoFend since → s.head.dropped ≤ last_count
    → (run_of s (since ++ (l ++ (fend ∷ [])))).stream.head.dropped ≡ at_most last_count (s.head.dropped + count spoilt (between since (l ++ (fend ∷ []))))
unfolding between
between-count [] since s k q h =
    let c = closed s since k q in
    let n : ℕ = s.head.dropped in
    let o = one-counted (spoilt since) n 0 h in
    rw (count-cons since [], count-nil) (c.dropped ∙ at-most_least (cond (spoilt since) (counted_of n) n) o.0 ∙ o.1)
between-count (x ∷ l) since s k q h =
    let m : List ℕ = l ++ (fend ∷ []) in
    by (eqb x fend)
    (λ e. let c = closed s since k q in
    let n : ℕ = s.head.dropped in
    let t : Stream = (run_of s (since ++ (fend ∷ []))).stream in
    let o = one-counted (spoilt since) n (count spoilt (between [] m)) h in
    let fewer : t.head.dropped ≤ last_count = rw c.dropped o.0 in
    rw (e, eqb-true x fend e, fend_cut since m s, count-cons since (between [] m))
    (between-count l [] t c.opens tt fewer ∙ rw c.dropped o.1))
    (λ e. rw e (ap (λ (u : List ℕ). (run_of s u).stream.head.dropped) (sym (append_snoc since x m)) ∙ between-count l (since ++ (x ∷ [])) s k (no-fend-more since x q e) h))

-- ---- from the first C0 on
-- a state with no packet open, before the first C0
pub record Fresh (s : Stream) : Type 0 where
  pub array : length s.octets ≡ room
  pub phase : s.head.phase ≡ outside

-- nothing comes of what stands before it
outside_step : (s : Stream) (b : ℕ) → s.head.phase ≡ outside → eqb b fend ≡ false → step_of s b ≡ s
unfolding step_of stored_by
outside_step s b p f = rw (idle_move s.head b (inl p) f) refl

outside-fend : (s : Stream) → s.head.phase ≡ outside → (gives s fend ≡ false) × ((step_of s fend).head.dropped ≡ s.head.dropped)
unfolding gives step_of move_of outside_of
outside-fend s p = rw p (refl, refl)

skip_run : (s : Stream) (b : ℕ) (l : List ℕ) → s.head.phase ≡ outside → eqb b fend ≡ false → run_of s (b ∷ l) ≡ run_of s l
unfolding run_of
skip_run s b l p f = rw (not-given s b f, outside_step s b p f) refl

-- THE PACKETS: those between two C0 that M-103 accepts, with at most 1,024 octets of data, in their order
pub line_packets : (l : List ℕ) (s : Stream) → Fresh s → (run_of s l).packets ≡ given_out (cut_at_fend l)
unfolding cut_at_fend run_of given_out
line_packets [] s k = refl
line_packets (x ∷ l) s k =
    by (eqb x fend)
    (λ e. rw (e, eqb-true x fend e, (outside-fend s k.phase).0) (between_run l [] (step_of s fend) (fend_opens s k.array) tt))
    (λ e. rw e (ap (λ (r : Run). r.packets) (skip_run s x l k.phase e) ∙ line_packets l s k))

-- THE COUNT: at each C0, of those between two C0 that are neither given out nor nothing
pub line-count : (l : List ℕ) (s : Stream) → Fresh s → s.head.dropped ≤ last_count
    → (run_of s (l ++ (fend ∷ []))).stream.head.dropped ≡ at_most last_count (s.head.dropped + count spoilt (cut_at_fend (l ++ (fend ∷ []))))
unfolding cut_at_fend run_of between
line-count [] s k h = rw ((outside-fend s k.phase).0, count-nil) ((outside-fend s k.phase).1 ∙ at-most_least s.head.dropped h)
line-count (x ∷ l) s k h =
    let m : List ℕ = l ++ (fend ∷ []) in
    by (eqb x fend)
    (λ e. let o = outside-fend s k.phase in
    rw (e, eqb-true x fend e, o.0)
    (between-count l [] (step_of s fend) (fend_opens s k.array) tt (rw o.1 h) ∙ rw o.1 refl))
    (λ e. rw e (ap (λ (r : Run). r.stream.head.dropped) (skip_run s x m k.phase e) ∙ line-count l s k h))

-- ---- nothing that is whole is lost
-- what is accepted is what stands between two C0, with them
pub record Packet (t : List ℕ) : Type 0 where
  pub inside : List ℕ
  pub is : t ≡ own inside
  pub plain : NoFend inside

record Closes (l : List ℕ) : Type 0 where
  before : List ℕ
  is : l ≡ before ++ (fend ∷ [])
  plain : NoFend before

no : {A : Type 0} → false ≡ true → A
no e = absurd (false≢true e)

other : (x y : ℕ) → eqb x y ≡ true → eqb y fend ≡ false → eqb x fend ≡ false
other x y e f = rw (eqb-true x y e) f

one_more : (x : ℕ) (l : List ℕ) → eqb x fend ≡ false → Closes l → Closes (x ∷ l)
one_more x l f c = record { before = x ∷ c.before; is = ap (λ (z : List ℕ). x ∷ z) c.is; plain = (f, c.plain) }

heard_closes : (l : List ℕ) → is_ok (heard false l) ≡ true → Closes l
unfolding heard
heard_closes [] a = no a
heard_closes (x ∷ []) a =
    by (eqb x fend)
    (λ f. record { before = []; is = ap (λ (z : ℕ). z ∷ []) (eqb-true x fend f); plain = tt })
    (λ f. by (eqb x fesc)
    (λ e. no (rw (heard_last x f e) at a))
    (λ e. no (rw (heard-plain x [] f e) at a)))
heard_closes (x ∷ y ∷ l) a =
    by (eqb x fend)
    (λ f. no (rw (heard_close x (y ∷ l) f) at a))
    (λ f. by (eqb x fesc)
    (λ e. by (eqb y tfend)
    (λ c. one_more x (y ∷ l) f (one_more y l (other y tfend c refl) (heard_closes l (sym (more_ok fend (heard false l)) ∙ (rw (heard-tfend x y l f e c) at a)))))
    (λ c. by (eqb y tfesc)
    (λ d. one_more x (y ∷ l) f (one_more y l (other y tfesc d refl) (heard_closes l (sym (more_ok fesc (heard false l)) ∙ (rw (heard-tfesc x y l f e c d) at a)))))
    (λ d. no (rw (heard-stray x y l f e c d) at a))))
    (λ e. one_more x (y ∷ l) f (heard_closes (y ∷ l) (sym (more_ok x (heard false (y ∷ l))) ∙ (rw (heard-plain x (y ∷ l) f e) at a)))))

pub accepted-own : (t : List ℕ) → is_ok (read_packet t) ≡ true → Packet t
accepted-own t a =
    let r = accepted_read t a in
    let c = heard_closes r.rest r.good in
    by (eqb r.kind fend)
    (λ e. absurd (omega (arith, rw (eqb-true r.kind fend e) at r.port)))
    (λ e. record {
      inside = r.kind ∷ c.before;
      is = r.is ∙ ap (λ (l : List ℕ). fend ∷ (r.kind ∷ l)) c.is;
      plain = (e, c.plain);
    })

-- it is whole where it has room
inside-whole : (t : List ℕ) (k : Packet t) → is_ok (read_packet t) ≡ true → length (octets_given (read_packet t)) ≤ room → whole k.inside ≡ true
inside-whole t k a r = rw (sym k.is) (rw a (le-leb _ _ r))

-- WHATEVER CAME BEFORE IT: a packet that M-103 accepts, with at most 1,024 octets of data, is given out at its closing C0, and from its
-- opening C0 on nothing else is given out and nothing is counted
module _ (s : Stream) (l t : List ℕ) (array : length s.octets ≡ room) (a : is_ok (read_packet t) ≡ true)
    (r : length (octets_given (read_packet t)) ≤ room) where
  k : Packet t
  k = accepted-own t a

  abbrev before : Run
  before = run_of s (l ++ (fend ∷ []))

  opens : Opened before.stream
  unfolding run_of
  opens =
      let u : Stream = (run_of s l).stream in
      let two : before ≡ then (run_of s l) (run_of u (fend ∷ [])) = run_cut l s (fend ∷ []) in
      let last : before.stream ≡ step_of u fend = ap (λ (x : Run). x.stream) two ∙ given_stream (gives u fend) (step_of u fend) _ in
      rw last (fend_opens u (run_array l s ∙ array))

  parts : run_of s (l ++ t) ≡ then before (run_of before.stream (k.inside ++ (fend ∷ [])))
  parts = ap (λ (x : List ℕ). run_of s (l ++ x)) k.is ∙ fend_cut l (k.inside ++ (fend ∷ [])) s

  pub nothing_lost : (run_of s (l ++ t)).packets ≡ (run_of s (l ++ (fend ∷ []))).packets ++ (read_packet t ∷ [])
  nothing_lost =
      let c = closed before.stream k.inside opens k.plain in
      ap (λ (x : Run). x.packets) parts
      ∙ ap (λ (x : List Reading). before.packets ++ x) (c.packets ∙ rw (inside-whole t k a r) (ap (λ (x : List ℕ). read_packet x ∷ []) (sym k.is)))

  pub nothing-counted : (run_of s (l ++ t)).stream.head.dropped ≡ (run_of s (l ++ (fend ∷ []))).stream.head.dropped
  nothing-counted =
      let c = closed before.stream k.inside opens k.plain in
      ap (λ (x : Run). x.stream.head.dropped) parts ∙ c.dropped ∙ rw (whole_unspoilt k.inside (inside-whole t k a r)) refl
    where
      whole_unspoilt : (t : List ℕ) → whole t ≡ true → spoilt t ≡ false
      whole_unspoilt [] e = refl
      whole_unspoilt (x ∷ t) e = rw e refl

-- ---- nothing else is given out
-- the octets that have come since the last C0
record Since (l : List ℕ) : Type 0 where
  before : List ℕ
  inside : List ℕ
  is : l ≡ before ++ (fend ∷ inside)
  plain : NoFend inside

since_last : (l : List ℕ) → NoFend l ⊎ Since l
since_last [] = inl tt
since_last (x ∷ l) = more (since_last l)
  where
    more : NoFend l ⊎ Since l → NoFend (x ∷ l) ⊎ Since (x ∷ l)
    more (inr c) = inr (record { before = x ∷ c.before; inside = c.inside; is = ap (λ (z : List ℕ). x ∷ z) c.is; plain = c.plain })
    more (inl q) =
        by (eqb x fend)
        (λ e. inr (record { before = []; inside = l; is = ap (λ (z : ℕ). z ∷ l) (eqb-true x fend e); plain = q }))
        (λ e. inl (e, q))

fresh_run : (l : List ℕ) (s : Stream) → Fresh s → NoFend l → (run_of s l).stream ≡ s
unfolding run_of
fresh_run [] s k q = refl
fresh_run (x ∷ l) s k q = ap (λ (r : Run). r.stream) (skip_run s x l k.phase q.0) ∙ fresh_run l s k q.1

-- what is given out at an octet: M-103 reads it of the octets from the packet's opening C0 to this one, and it has at most 1,024 octets
pub record Given-out (l : List ℕ) (b : ℕ) (g : Reading) : Type 0 where
  pub before : List ℕ
  pub packet : List ℕ
  pub is : l ++ (b ∷ []) ≡ before ++ packet
  pub reads : read_packet packet ≡ g
  pub accepts : is_ok (read_packet packet) ≡ true
  pub fits : length (octets_given g) ≤ room

one-given : (w : Bool) (g p : Reading) → g ∷ [] ≡ cond w (p ∷ []) [] → (w ≡ true) × (p ≡ g)
one-given true g p e = (refl, sym (ap (λ (l : List Reading). first_of l g) e))
  where
    first_of : List Reading → Reading → Reading
    first_of [] d = d
    first_of (x ∷ l) d = x
one-given false g p e = absurd (omega (arith, ap length e))

-- WHAT IS GIVEN OUT
pub given-own : (s : Stream) (l : List ℕ) (b : ℕ) → Fresh s → gives (run_of s l).stream b ≡ true → Given-out l b (packet_in (step_of (run_of s l).stream b))
unfolding run_of
given-own s l b k g = at_last (since_last l)
  where
    u : Stream
    u = (run_of s l).stream

    is-fend : (c : Bool) → eqb b fend ≡ c → b ≡ fend
    is-fend true e = eqb-true b fend e
    is-fend false e = absurd (false≢true (sym (not-given u b e) ∙ g))

    at_last : NoFend l ⊎ Since l → Given-out l b (packet_in (step_of u b))
    at_last (inl q) =
        let e = is-fend (eqb b fend) refl in
        absurd (false≢true (sym (outside-fend s k.phase).0 ∙ rw (fresh_run l s k q, e) at g))
    at_last (inr c) =
        let e = is-fend (eqb b fend) refl in
        let v : Stream = (run_of s c.before).stream in
        let w : Stream = step_of v fend in
        let open-w = fend_opens v (run_array c.before s ∙ k.array) in
        let after : u ≡ (run_of w c.inside).stream =
        ap (λ (x : List ℕ). (run_of s x).stream) c.is ∙ ap (λ (r : Run). r.stream) (run_cut c.before s (fend ∷ c.inside))
        ∙ given_stream (gives v fend) w (run_of w c.inside) in
        let z = closed w c.inside open-w c.plain in
        let two = ap (λ (r : Run). r.packets) (run_cut c.inside w (fend ∷ [])) in
        let given : gives u fend ≡ true = rw e at g in
        let all : packet_in (step_of u fend) ∷ [] ≡ cond (whole c.inside) (read_packet (own c.inside) ∷ []) [] =
        sym (two ∙ rw (quiet_run c.inside w c.plain, sym after, given) refl) ∙ z.packets in
        let one = one-given (whole c.inside) _ _ all in
        let good = both _ _ one.0 in
        rw e (record {
          before = c.before;
          packet = own c.inside;
          is = ap (λ (x : List ℕ). x ++ (fend ∷ [])) c.is ∙ append_assoc c.before (fend ∷ c.inside) (fend ∷ []);
          reads = one.1;
          accepts = good.0;
          fits = rw one.1 at (leb-true (length (octets_given (read_packet (own c.inside)))) room good.1);
        })
