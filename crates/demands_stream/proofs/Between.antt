-- What stands between two C0 is given out exactly where M-103 accepts it and it has room; else it is counted once, where it is anything.
use Prim.Native.Nat.{ℕ, suc, ◌+◌, ◌≤◌, ◌<◌}
use mathlib.Core.Path.{◌≡◌, refl, sym, ap, ◌∙◌}
use mathlib.Core.Bool.{Bool, true, false, cond, ◌&&◌, false≢true}
use mathlib.Core.List.{List, [], ◌∷◌, ◌++◌, append-nil}
use mathlib.Core.Logic.{inr}
use native.Mathlib.Numerals.{add-one}
use native.Mathlib.Omega.{arith}
use borrow.Author.Tests.{eqb-true, eq-eqb, ltb-true, ltb-false, lt-ltb, le-ltb, le-leb, lt-leb}
use Rattle.std.specs.Prelude.{Some, Result, Ok, Err, is_ok}
use lib.Dec.{eqb, ltb, leb}
use lib.ListN.{length, get_or, set, take, length-set}
use lib.Seq.{take-suc-set, append_snoc}
use Rattle.octets.specs.Octet.{field}
use Rattle.octets.specs.Outcome.{octets_of}
use Rattle.octets.proofs.Choice.{by, both}
use Rattle.kiss_reading.specs.declared.KissError.{KissError}
use Rattle.escapes.specs.Escape.{fend, fesc, tfend, tfesc}
use Rattle.kiss.specs.Packet.{last_port}
use Rattle.kiss_reading.specs.Answer.{Reading, accepted, octets_given}
use Rattle.kiss_reading.specs.Read.{more, heard, on_port, read_packet}
use Rattle.kiss_reading.proofs.Judged.{Read, accepted_read, read_opened, opened-typed, typed_data, on-accepted, on-stays}
use Rattle.demands_kiss.proofs.Spelling.{heard_close, heard-plain, heard-tfend, heard-tfesc, heard-stray}
use Rattle.kiss_state.specs.declared.Head.{Head}
use Rattle.kiss_state.specs.State.{room, opened, in_data, in_escape, dropping, in_type, head_of, stream_of}
use Rattle.kiss_octet.specs.declared.Move.{Move}
use Rattle.kiss_state.specs.declared.Stream.{Stream}
use Rattle.kiss_octet.specs.Step.{counted_of, drop_of, quiet_of, put_of, typed_of, stray_of, unescaped, outside_of, opened_of, data_of, move_of, stored_by, step_of, gives}
use Rattle.kiss_octet.proofs.Laws.{type-stray, plain_move, escape_move, fend_move, fesc_move, idle_move}
use Rattle.demands_stream.specs.Run.{Run, giving, run_of}
use Rattle.demands_stream.specs.Line.{own, whole, spoilt}

-- ---- one octet
-- a state by its parts
abbrev at : (phase : ℕ) → List ℕ → (length port dropped : ℕ) → Stream
at f o n p d = stream_of o (head_of n p f d)

-- a packet that is dropped, and its count
abbrev spoiled : List ℕ → ℕ → Stream
spoiled o d = at dropping o 0 0 (counted_of d)

-- what an octet leads to, by its move
run_move : (s : Stream) (b : ℕ) (l : List ℕ) (m : Move) → move_of s.head b ≡ m
    → let t = stream_of (stored_by m s.head.length s.octets) m.head in run_of s (b ∷ l) ≡ giving m.ready t (run_of t l)
unfolding run_of step_of gives
run_move s b l m e =
    ap (λ (x : Move). let t = stream_of (stored_by x s.head.length s.octets) x.head in giving x.ready t (run_of t l)) e

run-quiet : (s : Stream) (b : ℕ) (l : List ℕ) (k : Head) → move_of s.head b ≡ quiet_of k → run_of s (b ∷ l) ≡ run_of (stream_of s.octets k) l
unfolding stored_by
run-quiet s b l k e = run_move s b l (quiet_of k) e

module _ (f : ℕ) (o : List ℕ) (n p d : ℕ) (b : ℕ) (l : List ℕ) where
  abbrev h : Head
  h = head_of n p f d

  -- an octet of data is stored, or is one too many
  put_in : (z : ℕ) → move_of h b ≡ put_of h z → n < room → run_of (at f o n p d) (b ∷ l) ≡ run_of (at in_data (set o n z) (n + 1) p d) l
  unfolding put_of stored_by
  put_in z is r =
      run_move (at f o n p d) b l (record { head = head_of (n + 1) p in_data d; octet = Some z; ready = false })
      (is ∙ rw (lt-ltb n room r) refl)

  put_full : (z : ℕ) → move_of h b ≡ put_of h z → room ≤ n → run_of (at f o n p d) (b ∷ l) ≡ run_of (spoiled o d) l
  unfolding put_of drop_of
  put_full z is r = run-quiet (at f o n p d) b l (head_of 0 0 dropping (counted_of d)) (is ∙ rw (le-ltb n room r) refl)

  -- an octet behind a DB that is no escape
  stray_in : move_of h b ≡ stray_of h b → eqb b fend ≡ false → run_of (at f o n p d) (b ∷ l) ≡ run_of (spoiled o d) l
  unfolding stray_of drop_of
  stray_in is e = run-quiet (at f o n p d) b l (head_of 0 0 dropping (counted_of d)) (is ∙ rw e refl)

  stray_opens : move_of h b ≡ stray_of h b → eqb b fend ≡ true → run_of (at f o n p d) (b ∷ l) ≡ run_of (at opened o 0 0 (counted_of d)) l
  unfolding stray_of drop_of
  stray_opens is e = run-quiet (at f o n p d) b l (head_of 0 0 opened (counted_of d)) (is ∙ rw e refl)

module _ (o : List ℕ) (n p d : ℕ) where
  data_escape : (b : ℕ) (l : List ℕ) → eqb b fend ≡ false → eqb b fesc ≡ true → run_of (at in_data o n p d) (b ∷ l) ≡ run_of (at in_escape o n p d) l
  data_escape b l f e = run-quiet (at in_data o n p d) b l (head_of n p in_escape d) (escape_move (head_of n p in_data d) b refl f e)

  data_closes : (l : List ℕ) → run_of (at in_data o n p d) (fend ∷ l) ≡ giving true (at opened o n p d) (run_of (at opened o n p d) l)
  unfolding move_of data_of stored_by
  data_closes l = run_move (at in_data o n p d) fend l _ refl

  escape-stray : (b : ℕ) → eqb b tfend ≡ false → eqb b tfesc ≡ false → move_of (head_of n p in_escape d) b ≡ stray_of (head_of n p in_escape d) b
  unfolding move_of unescaped
  escape-stray b e g = rw (e, g) refl

  type_strays : (b : ℕ) → move_of (head_of n p in_type d) b ≡ stray_of (head_of n p in_type d) b
  unfolding move_of
  type_strays b = type-stray (head_of n p in_type d) b

  drops : (b : ℕ) (l : List ℕ) → eqb b fend ≡ false → run_of (at dropping o n p d) (b ∷ l) ≡ run_of (at dropping o n p d) l
  drops b l f = run-quiet (at dropping o n p d) b l (head_of n p dropping d) (idle_move (head_of n p dropping d) b (inr refl) f)

  drop_opens : (l : List ℕ) → run_of (at dropping o n p d) (fend ∷ l) ≡ run_of (at opened o 0 0 d) l
  unfolding move_of outside_of
  drop_opens l = run-quiet (at dropping o n p d) fend l (head_of 0 0 opened d) refl

  opened-again : (l : List ℕ) → run_of (at opened o n p d) (fend ∷ l) ≡ run_of (at opened o n p d) l
  unfolding move_of opened_of
  opened-again l = run-quiet (at opened o n p d) fend l (head_of n p opened d) refl

  opened_escape : (b : ℕ) (l : List ℕ) → eqb b fend ≡ false → eqb b fesc ≡ true → run_of (at opened o n p d) (b ∷ l) ≡ run_of (at in_type o n p d) l
  unfolding move_of opened_of
  opened_escape b l f e = run-quiet (at opened o n p d) b l (head_of n p in_type d) (rw (f, e) refl)

  module _ (b : ℕ) (l : List ℕ) (f : eqb b fend ≡ false) (e : eqb b fesc ≡ false) where
    opened_command : eqb (field 0 4 b) 0 ≡ false → run_of (at opened o n p d) (b ∷ l) ≡ run_of (spoiled o d) l
    unfolding move_of opened_of typed_of drop_of
    opened_command c = run-quiet (at opened o n p d) b l (head_of 0 0 dropping (counted_of d)) (rw (f, e, c) refl)

    opened_port : eqb (field 0 4 b) 0 ≡ true → ltb last_port (field 4 4 b) ≡ true → run_of (at opened o n p d) (b ∷ l) ≡ run_of (spoiled o d) l
    unfolding move_of opened_of typed_of drop_of
    opened_port c q = run-quiet (at opened o n p d) b l (head_of 0 0 dropping (counted_of d)) (rw (f, e, c, q) refl)

    opened_data : eqb (field 0 4 b) 0 ≡ true → ltb last_port (field 4 4 b) ≡ false → run_of (at opened o n p d) (b ∷ l) ≡ run_of (at in_data o 0 (field 4 4 b) d) l
    unfolding move_of opened_of typed_of
    opened_data c q = run-quiet (at opened o n p d) b l (head_of 0 (field 4 4 b) in_data d) (rw (f, e, c, q) refl)

-- ---- up to the next C0
abbrev pub NoFend : List ℕ → Type 0
NoFend [] = Unit {0}
NoFend (x ∷ t) = (eqb x fend ≡ false) × NoFend t

-- a state behind a C0, with its array
pub record Opened (s : Stream) : Type 0 where
  pub array : length s.octets ≡ room
  pub phase : s.head.phase ≡ opened

-- what comes of octets that end with C0, from a state with so many dropped: a packet, or one more dropped
record Ends (d : ℕ) (good : Bool) (g : Reading) (r : Run) : Type 0 where
  packets : r.packets ≡ cond good (g ∷ []) []
  dropped : r.stream.head.dropped ≡ cond good d (counted_of d)
  opens : Opened r.stream

-- nothing more comes of a packet that is dropped
spoiled-ends : (t : List ℕ) (o : List ℕ) (d : ℕ) (g : Reading) → length o ≡ room → NoFend t → Ends d false g (run_of (spoiled o d) (t ++ (fend ∷ [])))
unfolding run_of
spoiled-ends [] o d g a q = rw (drop_opens o 0 0 (counted_of d) []) (record { packets = refl; dropped = refl; opens = record { array = a; phase = refl } })
spoiled-ends (x ∷ t) o d g a q = rw (drops o 0 0 (counted_of d) x (t ++ (fend ∷ [])) q.0) (spoiled-ends t o d g a q.1)

-- nor of one whose type octet is escaped, whatever it stands for
type-ends : (t : List ℕ) (o : List ℕ) (n p d : ℕ) (g : Reading) → length o ≡ room → NoFend t → Ends d false g (run_of (at in_type o n p d) (t ++ (fend ∷ [])))
unfolding run_of
type-ends [] o n p d g a q =
    rw (stray_opens in_type o n p d fend [] (type_strays o n p d fend) refl)
    (record { packets = refl; dropped = refl; opens = record { array = a; phase = refl } })
type-ends (x ∷ t) o n p d g a q =
    rw (stray_in in_type o n p d x (t ++ (fend ∷ [])) (type_strays o n p d x) q.0) (spoiled-ends t o d g a q.1)

-- what is heard of the data, and what comes of it behind n octets
abbrev fits : ℕ → Result (List ℕ) KissError → Bool
fits n h = is_ok h && leb (n + length (octets_of h)) room

-- n octets of data are there, and so many more are heard
abbrev Data : (o : List ℕ) (n p d : ℕ) → Result (List ℕ) KissError → Run → Type 0
Data o n p d h r = Ends d (fits n h) (accepted p (take n o ++ octets_of h)) r

too_many : (n k : ℕ) → room ≤ n → leb (n + suc k) room ≡ false
too_many n k r = lt-leb (n + suc k) room (omega arith)

-- an octet of data, and what comes behind it
module _ (z : ℕ) (o : List ℕ) (n p d : ℕ) (k : List ℕ) (r : Run) (array : length o ≡ room) where
  one_data : (h : Result (List ℕ) KissError) → n < room → r ≡ run_of (at in_data (set o n z) (n + 1) p d) k
      → Data (set o n z) (n + 1) p d h (run_of (at in_data (set o n z) (n + 1) p d) k) → Data o n p d (more z h) r
  one_data (Ok g) l e w =
      let long : n + 1 + length g ≡ n + length (z ∷ g) = omega arith in
      let taken : take (n + 1) (set o n z) ≡ take n o ++ (z ∷ []) = rw add-one (take-suc-set o n z (omega arith)) in
      let whole-data : take (n + 1) (set o n z) ++ g ≡ take n o ++ (z ∷ g) = rw taken (append_snoc (take n o) z g) in
      rw e (rw (long, whole-data) at w)
  one_data (Err x) l e w = rw e (record { packets = w.packets; dropped = w.dropped; opens = w.opens })

  one_too_many : (h : Result (List ℕ) KissError) → room ≤ n → r ≡ run_of (spoiled o d) k → ((g : Reading) → Ends d false g (run_of (spoiled o d) k))
      → Data o n p d (more z h) r
  one_too_many (Ok g) l e v = rw (e, too_many n (length g) l) (v _)
  one_too_many (Err x) l e v = rw e (v _)

stored : (f z b : ℕ) (o : List ℕ) (n p d : ℕ) (k : List ℕ) → length o ≡ room → move_of (head_of n p f d) b ≡ put_of (head_of n p f d) z
    → (n < room → Data (set o n z) (n + 1) p d (heard false k) (run_of (at in_data (set o n z) (n + 1) p d) k))
    → ((g : Reading) → Ends d false g (run_of (spoiled o d) k))
    → Data o n p d (more z (heard false k)) (run_of (at f o n p d) (b ∷ k))
stored f z b o n p d k array is w v =
    by (ltb n room)
    (λ e. let l = ltb-true n room e in
    one_data z o n p d k _ array (heard false k) l (put_in f o n p d b k z is l) (w l))
    (λ e. let l = ltb-false n room e in
    one_too_many z o n p d k _ array (heard false k) l (put_full f o n p d b k z is l) v)

-- the data up to its closing C0
data-ends : (l : List ℕ) (o : List ℕ) (n p d : ℕ) → length o ≡ room → n ≤ room → NoFend l
    → Data o n p d (heard false (l ++ (fend ∷ []))) (run_of (at in_data o n p d) (l ++ (fend ∷ [])))
unfolding run_of
data-ends [] o n p d a r q =
    rw (heard_close fend [] refl, data_closes o n p d [], le-leb (n + 0) room (omega arith), append-nil)
    (record { packets = refl; dropped = refl; opens = record { array = a; phase = refl } })
data-ends (x ∷ []) o n p d a r q =
    by (eqb x fesc)
    (λ e. rw (
      heard-stray x fend [] q.0 e refl refl,
      data_escape o n p d x (fend ∷ []) q.0 e,
      stray_opens in_escape o n p d fend [] (escape-stray o n p d fend refl refl) refl,
    )
    (record { packets = refl; dropped = refl; opens = record { array = a; phase = refl } }))
    (λ e. rw (heard-plain x (fend ∷ []) q.0 e)
    (stored in_data x x o n p d (fend ∷ []) a (plain_move (head_of n p in_data d) x refl q.0 e)
    (λ m. data-ends [] (set o n x) (n + 1) p d (length-set o n x ∙ a) (omega (arith, m)) tt)
    (λ g. spoiled-ends [] o d g a tt)))
data-ends (x ∷ y ∷ l) o n p d a r q =
    let k : List ℕ = l ++ (fend ∷ []) in
    let rest : (z : ℕ) → n < room → Data (set o n z) (n + 1) p d (heard false k) (run_of (at in_data (set o n z) (n + 1) p d) k) =
    λ z m. data-ends l (set o n z) (n + 1) p d (length-set o n z ∙ a) (omega (arith, m)) q.1.1 in
    let spoilt-rest : (g : Reading) → Ends d false g (run_of (spoiled o d) k) = λ g. spoiled-ends l o d g a q.1.1 in
    by (eqb x fesc)
    (λ e. rw (data_escape o n p d x (y ∷ k) q.0 e)
    (by (eqb y tfend)
    (λ t. rw (heard-tfend x y k q.0 e t) (stored in_escape fend y o n p d k a (fend_move (head_of n p in_escape d) y refl t) (rest fend) spoilt-rest))
    (λ t. by (eqb y tfesc)
    (λ u. rw (heard-tfesc x y k q.0 e t u) (stored in_escape fesc y o n p d k a (fesc_move (head_of n p in_escape d) y refl t u) (rest fesc) spoilt-rest))
    (λ u. rw (heard-stray x y k q.0 e t u, stray_in in_escape o n p d y k (escape-stray o n p d y t u) q.1.0) (spoilt-rest _)))))
    (λ e. rw (heard-plain x (y ∷ k) q.0 e)
    (stored in_data x x o n p d (y ∷ k) a (plain_move (head_of n p in_data d) x refl q.0 e)
    (λ m. data-ends (y ∷ l) (set o n x) (n + 1) p d (length-set o n x ∙ a) (omega (arith, m)) q.1)
    (λ g. spoiled-ends (y ∷ l) o d g a q.1)))

-- ---- what stands between two C0
-- what is not accepted
not_read : (s : List ℕ) → (Read s → ⊥) → is_ok (read_packet s) ≡ false
not_read s f = by (is_ok (read_packet s)) (λ a. absurd (f (accepted_read s a))) (λ a. a)

-- the type octet of what is
kind_is : (x y : ℕ) (l : List ℕ) (r : Read (x ∷ (y ∷ l))) → r.kind ≡ y
kind_is x y l r = ap (λ (s : List ℕ). get_or s 1 0) (sym r.is)

-- a type octet that is taken: what is read is what is heard behind it
module _ (x : ℕ) (l : List ℕ) (f : eqb x fend ≡ false) (e : eqb x fesc ≡ false) (c : eqb (field 0 4 x) 0 ≡ true) (q : ltb last_port (field 4 4 x) ≡ false) where
  abbrev s : List ℕ
  s = fend ∷ (x ∷ l)

  read_is : read_packet s ≡ on_port (field 4 4 x) (heard false l)
  read_is = read_opened s (omega arith) refl ∙ opened-typed s (omega arith) f e ∙ typed_data x l c q

  heard-whole : (is_ok (read_packet s) && leb (length (octets_given (read_packet s))) room) ≡ fits 0 (heard false l)
  heard-whole =
      by (is_ok (heard false l))
      (λ a. let k : 0 + length (octets_of (heard false l)) ≡ length (octets_of (heard false l)) = omega arith in
      rw (read_is, on-accepted (field 4 4 x) (heard false l) a, a, k) refl)
      (λ a. rw (read_is, on-stays (field 4 4 x) (heard false l) a, a) refl)

  -- and where it is given out, it is the packet
  heard-packet : fits 0 (heard false l) ≡ true → accepted (field 4 4 x) (octets_of (heard false l)) ≡ read_packet s
  heard-packet w = sym (read_is ∙ on-accepted (field 4 4 x) (heard false l) (both _ _ w).0)

-- what comes of it: given out, passed over or counted
pub record Closed (d : ℕ) (t : List ℕ) (r : Run) : Type 0 where
  pub packets : r.packets ≡ cond (whole t) (read_packet (own t) ∷ []) []
  pub dropped : r.stream.head.dropped ≡ cond (spoilt t) (counted_of d) d
  pub opens : Opened r.stream

ended : (d x : ℕ) (t : List ℕ) (good : Bool) (g : Reading) (r : Run) → whole (x ∷ t) ≡ good → (good ≡ true → g ≡ read_packet (own (x ∷ t)))
    → Ends d good g r → Closed d (x ∷ t) r
ended d x t true g r w same e =
    record { packets = e.packets ∙ rw (w, same refl) refl; dropped = e.dropped ∙ rw w refl; opens = e.opens }
ended d x t false g r w same e = record { packets = e.packets ∙ rw w refl; dropped = e.dropped ∙ rw w refl; opens = e.opens }

spoilt-closed : (d x : ℕ) (t : List ℕ) (r : Run) → is_ok (read_packet (own (x ∷ t))) ≡ false
    → ((g : Reading) → Ends d false g r) → Closed d (x ∷ t) r
spoilt-closed d x t r n e = ended d x t false (accepted 0 []) r (rw n refl) (λ f. absurd (false≢true f)) (e _)

closed_at : (t : List ℕ) (o : List ℕ) (n p d : ℕ) → length o ≡ room → NoFend t → Closed d t (run_of (at opened o n p d) (t ++ (fend ∷ [])))
unfolding run_of
closed_at [] o n p d a q =
    let none = not_read (fend ∷ (fend ∷ [])) (λ r. omega (arith, r.port, kind_is fend fend [] r)) in
    rw (opened-again o n p d []) (record { packets = rw none refl; dropped = refl; opens = record { array = a; phase = refl } })
closed_at (x ∷ t) o n p d a q =
    let k : List ℕ = t ++ (fend ∷ []) in
    let f = q.0 in
    let dropped : (g : Reading) → Ends d false g (run_of (spoiled o d) k) = λ g. spoiled-ends t o d g a q.1 in
    by (eqb x fesc)
    (λ e. let command : Read (own (x ∷ t)) → ⊥ = λ r. omega (arith, rw (kind_is fend x k r, eqb-true x fesc e) at r.command) in
    spoilt-closed d x t _ (not_read _ command) (λ g. rw (opened_escape o n p d x k f e) (type-ends t o n p d g a q.1)))
    (λ e. by (eqb (field 0 4 x) 0)
    (λ c. by (ltb last_port (field 4 4 x))
    (λ u. let port : Read (own (x ∷ t)) → ⊥ = λ r. omega (arith, ltb-true last_port (field 4 4 x) u, rw (kind_is fend x k r) at r.port) in
    spoilt-closed d x t _ (not_read _ port) (λ g. rw (opened_port o n p d x k f e c u) (dropped g)))
    (λ u. ended d x t (fits 0 (heard false k)) (accepted (field 4 4 x) (octets_of (heard false k))) _ (heard-whole x k f e c u) (heard-packet x k f e c u)
    (rw (opened_data o n p d x k f e c u) (data-ends t o 0 (field 4 4 x) d a (omega arith) q.1))))
    (λ c. let command : Read (own (x ∷ t)) → ⊥ = λ r. false≢true (sym c ∙ eq-eqb _ _ (rw (kind_is fend x k r) at r.command)) in
    spoilt-closed d x t _ (not_read _ command) (λ g. rw (opened_command o n p d x k f e c) (dropped g))))

-- from any state behind a C0
opened_is : (s : Stream) → Opened s → s ≡ at opened s.octets s.head.length s.head.port s.head.dropped
opened_is s k = ap (λ (f : ℕ). at f s.octets s.head.length s.head.port s.head.dropped) k.phase

pub closed : (s : Stream) (t : List ℕ) → Opened s → NoFend t → Closed s.head.dropped t (run_of s (t ++ (fend ∷ [])))
closed s t k q =
    rw (opened_is s k) (closed_at t s.octets s.head.length s.head.port s.head.dropped k.array q)
