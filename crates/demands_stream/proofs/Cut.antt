-- However a line is cut into pieces, and each piece used up by however many calls: packets and state are those of its octets in a row.
use Prim.Native.Nat.{ℕ, suc, ◌+◌, ◌≤◌}
use mathlib.Core.Path.{◌≡◌, refl, sym, ap, ◌∙◌}
use mathlib.Core.Bool.{Bool, true, false, cond}
use mathlib.Core.List.{List, [], ◌∷◌, ◌++◌}
use native.Mathlib.Omega.{arith}
use borrow.Author.Tests.{ltb-false, le-ltb}
use lib.Dec.{ltb, eqb}
use lib.ListN.{length, drop}
use Rattle.octets.proofs.Choice.{either}
use Rattle.kiss.specs.Packet.{last_port}
use Rattle.kiss_state.specs.declared.Head.{Head}
use Rattle.kiss_state.specs.declared.Stream.{Stream}
use Rattle.kiss_state.specs.State.{room, opened, in_type, head_of, none_in, settled_head, settled, stream_of}
use Rattle.kiss_octet.specs.Step.{drop_of, move_of, step_of, gives}
use Rattle.kiss_octet.proofs.Laws.{move_by}
use Rattle.kiss_stream.specs.declared.Fed.{Fed}
use Rattle.kiss_stream.specs.Feed.{Called, no_packet, packet_of, later, taken_from, feed_of, fed_of}
use Rattle.demands_stream.specs.Run.{Run, giving, run_of, line_of, then, in_pieces, joined}

-- ---- states that calls make
pub record Sound (h : Head) : Type 0 where
  pub length_in : h.length ≤ room
  pub port_in : h.port ≤ last_port
  pub phase_in : h.phase ≤ in_type

-- an octet keeps them so
none_sound : (f d : ℕ) → f ≤ in_type → Sound (head_of 0 0 f d)
none_sound f d l = record { length_in = omega arith; port_in = omega arith; phase_in = l }

move_keeps : (h : Head) (b : ℕ) → Sound h → Sound (move_of h b).head
unfolding drop_of
move_keeps h b k =
    move_by h b (λ m. Sound m.head) (record {
      same = k;
      opens = none_sound opened h.dropped (omega arith);
      waits = λ f l. record { length_in = k.length_in; port_in = k.port_in; phase_in = l };
      drops = λ f l. none_sound f _ l;
      starts = λ p l. record { length_in = omega arith; port_in = l; phase_in = omega arith };
      stores = λ z l. record { length_in = omega (arith, l); port_in = k.port_in; phase_in = omega arith };
      closes = λ _. record { length_in = k.length_in; port_in = k.port_in; phase_in = omega arith };
    })

step_keeps : (s : Stream) (b : ℕ) → Sound s.head → Sound (step_of s b).head
unfolding step_of
step_keeps s b k = move_keeps s.head b k

-- any state is read as one of them, and each of them as it is
pub settled_sound : (h : Head) → Sound (settled_head h)
unfolding settled_head
settled_sound h =
    let fresh : Sound (none_in h 0) = record { length_in = omega arith; port_in = omega arith; phase_in = omega arith } in
    either Sound (ltb room h.length) (λ _. fresh) (λ e. either Sound (ltb last_port h.port) (λ _. fresh) (λ f.
    either Sound (ltb in_type h.phase) (λ _. fresh) (λ g.
    record { length_in = ltb-false _ _ e; port_in = ltb-false _ _ f; phase_in = ltb-false _ _ g })))

pub sound-settled : (h : Head) → Sound h → settled_head h ≡ h
unfolding settled_head
sound-settled h k = simp (le-ltb room h.length k.length_in, le-ltb last_port h.port k.port_in, le-ltb in_type h.phase k.phase_in)

settled_is : (s : Stream) → Sound s.head → settled s ≡ s
settled_is s k = ap (λ (h : Head). record { octets = s.octets; head = h }) (sound-settled s.head k)

-- ---- two parts of a line
run_sound : (l : List ℕ) (s : Stream) → Sound s.head → Sound (run_of s l).stream.head
unfolding run_of
run_sound [] s k = k
run_sound (b ∷ l) s k = given (gives s b) (run_sound l (step_of s b) (step_keeps s b k))
  where
    given : (t : Bool) → Sound (run_of (step_of s b) l).stream.head → Sound (giving t (step_of s b) (run_of (step_of s b) l)).stream.head
    given true h = h
    given false h = h

pub run_cut : (p : List ℕ) (s : Stream) (q : List ℕ) → run_of s (p ++ q) ≡ then (run_of s p) (run_of (run_of s p).stream q)
unfolding run_of
run_cut [] s q = refl
run_cut (b ∷ p) s q = ap (giving (gives s b) (step_of s b)) (run_cut p (step_of s b) q) ∙ cut (gives s b)
  where
    r : Run
    r = run_of (step_of s b) p

    cut : (t : Bool) → giving t (step_of s b) (then r (run_of r.stream q)) ≡ then (giving t (step_of s b) r) (run_of (giving t (step_of s b) r).stream q)
    cut true = refl
    cut false = refl

pub line_cut : (s : Stream) (p q : List ℕ) → line_of s (p ++ q) ≡ then (line_of s p) (line_of (line_of s p).stream q)
unfolding line_of
line_cut s p q =
    rw (settled_is (run_of (settled s) p).stream (run_sound p (settled s) (settled_sound s.head))) (run_cut p (settled s) q)

-- THE LINE IN ANY PIECES
pub any_cut : (ps : List (List ℕ)) (s : Stream) → in_pieces s ps ≡ line_of s (joined ps)
unfolding in_pieces joined
any_cut [] s = refl
any_cut (p ∷ ps) s = rw (any_cut ps (line_of s p).stream) (sym (line_cut s p (joined ps)))

-- ---- calls
-- a call, and the line that is left behind it
abbrev pub goes_on : Called → List ℕ → Run
goes_on c l = giving (eqb c.packet.ready 1) c.stream (line_of c.stream (drop c.taken l))

taken_sound : (l : List ℕ) (s : Stream) → Sound s.head → Sound (taken_from s l).stream.head
unfolding taken_from
taken_sound [] s k = k
taken_sound (b ∷ l) s k =
    let n = step_keeps s b k in
    either (λ (c : Called). Sound c.stream.head) (gives s b) (λ _. n) (λ _. taken_sound l (step_of s b) n)

abbrev onward : Called → List ℕ → Run
onward c l = giving (eqb c.packet.ready 1) c.stream (run_of c.stream (drop c.taken l))

run_call : (l : List ℕ) (s : Stream) → run_of s l ≡ onward (taken_from s l) l
unfolding run_of taken_from
run_call [] s = refl
run_call (b ∷ l) s = turn (gives s b) (run_call l (step_of s b))
  where
    c : Called
    c = taken_from (step_of s b) l

    one_more : (n : ℕ) → suc n ≡ 1 + n
    one_more n = omega arith

    turn : (t : Bool) → run_of (step_of s b) l ≡ onward c l → giving t (step_of s b) (run_of (step_of s b) l)
        ≡ onward (cond t (record { stream = step_of s b; packet = packet_of (step_of s b).head; taken = 1 }) (later 1 c)) (b ∷ l)
    turn true e = refl
    turn false e =
        e ∙ ap (λ (n : ℕ). giving (eqb c.packet.ready 1) c.stream (run_of c.stream (drop n (b ∷ l)))) (one_more c.taken)

-- A LINE BY CALLS: the packet of the first, if it gives one out, and then the line from what it left on
pub line_call : (s : Stream) (l : List ℕ) → line_of s l ≡ goes_on (feed_of s l) l
unfolding line_of feed_of
line_call s l =
    rw (settled_is (taken_from (settled s) l).stream (taken_sound l (settled s) (settled_sound s.head))) (run_call l (settled s))

-- a call takes no more than there is, and of something at least one octet: so calls use a piece up
taken_some : (s : Stream) (b : ℕ) (l : List ℕ) → 1 ≤ (taken_from s (b ∷ l)).taken
unfolding taken_from
taken_some s b l = either (λ (c : Called). 1 ≤ c.taken) (gives s b) (λ _. omega arith) (λ _. omega arith)

taken-most : (l : List ℕ) (s : Stream) → (taken_from s l).taken ≤ length l
unfolding taken_from
taken-most [] s = omega arith
taken-most (b ∷ l) s =
    either (λ (c : Called). c.taken ≤ suc (length l)) (gives s b) (λ _. omega arith) (λ _. omega (arith, taken-most l (step_of s b)))

pub call_takes : (s : Stream) (b : ℕ) (l : List ℕ) → (1 ≤ (feed_of s (b ∷ l)).taken) × ((feed_of s (b ∷ l)).taken ≤ length (b ∷ l))
unfolding feed_of
call_takes s b l = (taken_some (settled s) b l, taken-most (b ∷ l) (settled s))

-- an empty piece takes nothing, gives out nothing and changes nothing of a state that calls made
pub call_none : (s : Stream) → Sound s.head → feed_of s [] ≡ record { stream = s; packet = no_packet; taken = 0 }
unfolding feed_of taken_from
call_none s k = rw (settled_is s k) refl

-- all calls make such states
pub call_sound : (s : Stream) (l : List ℕ) → Sound (feed_of s l).stream.head
unfolding feed_of
call_sound s l = taken_sound l (settled s) (settled_sound s.head)

-- ---- a call, as its function gives it: the packet or none, and the line from there on
pub record Turns (octets : List ℕ) (h : Head) (l : List ℕ) (f : Fed) (u : List ℕ) : Type 0 where
  pub packets : length (line_of (stream_of octets h) l).packets ≡ f.packet.ready + length (line_of (stream_of u f.head) (drop f.taken l)).packets
  pub stream : (line_of (stream_of octets h) l).stream ≡ (line_of (stream_of u f.head) (drop f.taken l)).stream
  pub one : f.packet.ready ≤ f.taken
  pub some : 1 ≤ length l → 1 ≤ f.taken
  pub most : f.taken ≤ length l
  pub sound : Sound f.head

-- a packet is given out or not, and it takes an octet
ready_one : (l : List ℕ) (s : Stream)
    → let c = taken_from s l in (c.packet.ready ≤ c.taken) × ((r : Run) → length (giving (eqb c.packet.ready 1) c.stream r).packets ≡ c.packet.ready + length r.packets)
unfolding taken_from
ready_one [] s = (omega arith, λ r. omega arith)
ready_one (b ∷ l) s =
    let Good : Called → Type 0 =
    λ c. (c.packet.ready ≤ c.taken) × ((r : Run) → length (giving (eqb c.packet.ready 1) c.stream r).packets ≡ c.packet.ready + length r.packets) in
    let w = ready_one l (step_of s b) in
    either Good (gives s b) (λ _. (omega arith, λ r. omega arith)) (λ _. (omega (arith, w.0), w.1))

pub given_stream : (t : Bool) (s : Stream) (r : Run) → (giving t s r).stream ≡ r.stream
given_stream true s r = refl
given_stream false s r = refl

-- what a call takes and gives out
call-ready : (s : Stream) (l : List ℕ)
    → let c = feed_of s l in (c.packet.ready ≤ c.taken) × ((r : Run) → length (giving (eqb c.packet.ready 1) c.stream r).packets ≡ c.packet.ready + length r.packets)
unfolding feed_of
call-ready s l = ready_one l (settled s)

call_some : (s : Stream) (l : List ℕ) → 1 ≤ length l → 1 ≤ (feed_of s l).taken
call_some s [] n = absurd (omega arith)
call_some s (b ∷ l) n = (call_takes s b l).0

call-most : (s : Stream) (l : List ℕ) → (feed_of s l).taken ≤ length l
unfolding feed_of
call-most s l = taken-most l (settled s)

pub turns : (octets : List ℕ) (h : Head) (l : List ℕ) (f : Fed) (u : List ℕ) → f ≡ fed_of (feed_of (stream_of octets h) l)
    → u ≡ (feed_of (stream_of octets h) l).stream.octets → Turns octets h l f u
turns octets h l f u e o =
    let s : Stream = stream_of octets h in
    let c = line_call s l in
    rw (e, o) (record {
      packets = ap (λ (r : Run). length r.packets) c ∙ (call-ready s l).1 _;
      stream = ap (λ (r : Run). r.stream) c ∙ given_stream (eqb (feed_of s l).packet.ready 1) (feed_of s l).stream _;
      one = (call-ready s l).0;
      some = call_some s l;
      most = call-most s l;
      sound = call_sound s l;
    })

-- nothing is left of a line that is used up
pub line_none : (octets : List ℕ) (h : Head) → Sound h → line_of (stream_of octets h) [] ≡ record { packets = []; stream = stream_of octets h }
unfolding line_of run_of
line_none octets h k = rw (sound-settled h k) refl

-- no more packets than octets
run_few : (l : List ℕ) (s : Stream) → length (run_of s l).packets ≤ length l
unfolding run_of
run_few [] s = omega arith
run_few (b ∷ l) s = few (gives s b) (run_few l (step_of s b))
  where
    few : (t : Bool) → length (run_of (step_of s b) l).packets ≤ length l → length (giving t (step_of s b) (run_of (step_of s b) l)).packets ≤ suc (length l)
    few true h = omega (arith, h)
    few false h = omega (arith, h)

pub line_few : (s : Stream) (l : List ℕ) → length (line_of s l).packets ≤ length l
unfolding line_of
line_few s l = run_few l (settled s)
