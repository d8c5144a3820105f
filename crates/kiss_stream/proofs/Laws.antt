-- One turn of the loop over a piece, and one of each loop over a run.
use Rattle.std.proofs.Common.{◌≡◌, ℕ, zero, suc, ◌+◌, ◌-◌, ◌≤◌, ◌<◌, true, false, List, [], ◌∷◌, eqb, length, get_or, set, drop, refl, ap, sym, ◌∙◌, arith, add-one, drop-cons}
use mathlib.Core.Logic.{◌⊎◌}
use borrow.Author.Tests.{ne_eqb, lt-ltb}
use Rattle.octets.specs.First.{first}
use Rattle.octets.proofs.Choice.{by}
use Rattle.escapes.specs.Escape.{fend, fesc, tfend, tfesc}
use Rattle.kiss_state.specs.declared.Head.{Head}
use Rattle.kiss_state.specs.declared.Stream.{Stream}
use Rattle.kiss_state.specs.State.{room, outside, in_data, in_escape, dropping, head_of, stream_of}
use Rattle.kiss_octet.specs.declared.Move.{Move}
use Rattle.kiss_octet.specs.Step.{put_of, move_of, stored_by, step_of, gives}
use Rattle.kiss_octet.proofs.Laws.{plain_move, escape_move, fend_move, fesc_move, idle_move}
use Rattle.kiss_stream.specs.Feed.{Called, no_packet, packet_of, later, taken_from}
use Rattle.kiss_stream.specs.Steps.{Reaches, Stores}

-- ---- the loop over a piece
later-later : (i j : ℕ) (c : Called) → later i (later j c) ≡ later (i + j) c
later-later i j c = ap (λ (n : ℕ). record { stream = c.stream; packet = c.packet; taken = n }) (omega arith)

later_is : (i j : ℕ) (c : Called) → i ≡ j → later i c ≡ later j c
later_is i j c e = ap (λ (n : ℕ). later n c) e

later_none : (c : Called) → later 0 c ≡ c
later_none c = ap (λ (n : ℕ). record { stream = c.stream; packet = c.packet; taken = n }) (omega arith)

pub reaches_itself : (s : Stream) (l : List ℕ) → Reaches s l s l
reaches_itself s l = (omega arith, sym (later_none (taken_from s l)) ∙ later_is 0 (length l - length l) (taken_from s l) (omega arith))

-- one run, and then another
pub reaches_on : (s : Stream) (l : List ℕ) (t : Stream) (r : List ℕ) (u : Stream) (q : List ℕ) → Reaches s l t r → Reaches t r u q → Reaches s l u q
reaches_on s l t r u q a b =
    let n : length l - length r + (length r - length q) ≡ length l - length q = omega (arith, a.0, b.0) in
    (omega (arith, a.0, b.0), a.1 ∙ ap (later (length l - length r)) b.1 ∙ later-later _ _ _ ∙ later_is _ _ _ n)

-- one octet of it, by what the step does
module _ (octets : List ℕ) (h : Head) (x : ℕ) (l : List ℕ) (m : Move) (u : List ℕ)
    (moves : m ≡ move_of h x) (stores : u ≡ stored_by (move_of h x) h.length octets) where
  stepped : step_of (stream_of octets h) x ≡ stream_of u m.head
  unfolding step_of
  stepped = rw (moves, stores) refl

  given : gives (stream_of octets h) x ≡ m.ready
  unfolding gives
  given = rw moves refl

  step-gives : m.ready ≡ true → taken_from (stream_of octets h) (x ∷ l) ≡ record { stream = stream_of u m.head; packet = packet_of m.head; taken = 1 }
  unfolding taken_from
  step-gives r = rw (given, r, stepped) refl

  step_goes : m.ready ≡ false → Reaches (stream_of octets h) (x ∷ l) (stream_of u m.head) l
  unfolding taken_from
  step_goes r = (omega arith, rw (given, r, stepped) (later_is 1 (suc (length l) - length l) _ (omega arith)))

-- a call that has come to a place in its piece: at the end all of it is taken
ends : (s : Stream) (l : List ℕ) → length l ≡ 0 → taken_from s l ≡ record { stream = s; packet = no_packet; taken = 0 }
unfolding taken_from
ends s [] h = refl
ends s (x ∷ l) h = absurd (omega arith)

pub ends_at : (s : Stream) (l : List ℕ) (t : Stream) (r : List ℕ) → Reaches s l t r → length r ≡ 0
    → taken_from s l ≡ record { stream = t; packet = no_packet; taken = length l }
ends_at s l t r k h =
    k.1 ∙ ap (later (length l - length r)) (ends t r h) ∙ ap (λ (n : ℕ). record { stream = t; packet = no_packet; taken = n }) (omega arith)

-- and else the octet there is by what the step does
module _ (s : Stream) (l : List ℕ) (octets : List ℕ) (h : Head) (x : ℕ) (r : List ℕ) (m : Move) (u : List ℕ) (k : Reaches s l (stream_of octets h) (x ∷ r))
    (moves : m ≡ move_of h x) (stores : u ≡ stored_by (move_of h x) h.length octets) where
  pub gives_at : m.ready ≡ true → taken_from s l ≡ record { stream = stream_of u m.head; packet = packet_of m.head; taken = length l - length r }
  gives_at e =
      let n : length l - length (x ∷ r) + 1 ≡ length l - length r = omega (arith, k.0) in
      k.1 ∙ ap (later (length l - length (x ∷ r))) (step-gives octets h x r m u moves stores e)
      ∙ ap (λ (n : ℕ). record { stream = stream_of u m.head; packet = packet_of m.head; taken = n }) n

  pub goes_at : m.ready ≡ false → Reaches s l (stream_of u m.head) r
  goes_at e = reaches_on s l (stream_of octets h) (x ∷ r) (stream_of u m.head) r k (step_goes octets h x r m u moves stores e)

-- ---- the runs
-- an octet of data: it is stored where there is room
puts : (octets : List ℕ) (h : Head) (x b : ℕ) (l : List ℕ) → move_of h x ≡ put_of h b → h.length < room
    → Reaches (stream_of octets h) (x ∷ l) (stream_of (set octets h.length b) (head_of (h.length + 1) h.port in_data h.dropped)) l
unfolding put_of stored_by
puts octets h x b l moves r =
    let full = rw (lt-ltb _ _ r) at moves in
    step_goes octets h x l _ _ (sym full) (rw full refl) refl

plain : (octets : List ℕ) (n p d x : ℕ) (l : List ℕ) → (x ≡ fend → ⊥) → (x ≡ fesc → ⊥) → n < room
    → Reaches (stream_of octets (head_of n p in_data d)) (x ∷ l) (stream_of (set octets n x) (head_of (n + 1) p in_data d)) l
plain octets n p d x l a b r = puts octets (head_of n p in_data d) x x l (plain_move (head_of n p in_data d) x refl (ne_eqb _ _ a) (ne_eqb _ _ b)) r

pair : (x y b : ℕ) (l : List ℕ) → x ≡ fesc → ((h : Head) → h.phase ≡ in_escape → move_of h y ≡ put_of h b) → Stores b (x ∷ (y ∷ l))
unfolding stored_by
pair x y b l a second octets n p d r =
    let h : Head = head_of n p in_data d in
    let moves = rw (sym a) at (escape_move h fesc refl refl refl) in
    reaches_on (stream_of octets h) (x ∷ (y ∷ l)) (stream_of octets (head_of n p in_escape d)) (y ∷ l) _ l
    (step_goes octets h x (y ∷ l) _ octets (sym moves) (rw moves refl) refl)
    (puts octets (head_of n p in_escape d) y b l (second (head_of n p in_escape d) refl) r)

pub fend-stores : (l : List ℕ) → 2 ≤ length l → get_or l 0 0 ≡ fesc → get_or l 1 0 ≡ tfend → Stores fend l
fend-stores [] h a b = absurd (omega arith)
fend-stores (x ∷ []) h a b = absurd (omega arith)
fend-stores (x ∷ y ∷ l) h a b = pair x y fend l a (rw b (λ k p. fend_move k tfend p refl))

pub fesc-stores : (l : List ℕ) → 2 ≤ length l → get_or l 0 0 ≡ fesc → get_or l 1 0 ≡ tfesc → Stores fesc l
fesc-stores [] h a b = absurd (omega arith)
fesc-stores (x ∷ []) h a b = absurd (omega arith)
fesc-stores (x ∷ y ∷ l) h a b = pair x y fesc l a (rw b (λ k p. fesc_move k tfesc p refl refl))

-- octets of data that stand for themselves, up to `i`: how many there are, and where the call is with them stored
pub record Filled (octets₀ : List ℕ) (held : ℕ) (l : List ℕ) (octets : List ℕ) (end i : ℕ) : Type 0 where
  pub few : end ≤ 65535
  pub many : end ≡ held + i
  pub reaches : (p d : ℕ) → Reaches (stream_of octets₀ (head_of held p in_data d)) l (stream_of octets (head_of end p in_data d)) (drop i l)

pub filled_none : (octets : List ℕ) (held : ℕ) (l : List ℕ) → held ≤ 65535 → Filled octets held l octets held 0
filled_none octets held l h = record { few = h; many = omega arith; reaches = λ p d. reaches_itself _ l }

module _ (octets₀ : List ℕ) (held : ℕ) (l : List ℕ) (octets : List ℕ) (end i : ℕ) (k : Filled octets₀ held l octets end i) where
  pub filled_more : i < length l → (get_or l i 0 ≡ fend → ⊥) → (get_or l i 0 ≡ fesc → ⊥) → end < room → Filled octets₀ held l (set octets end (get_or l i 0)) (end + 1) (i + 1)
  filled_more far a b r =
      let many = k.many in
      record {
        few = omega arith;
        many = omega arith;
        reaches = λ p d. reaches_on _ l _ (drop i l) _ (drop (i + 1) l) (k.reaches p d) (rw (add-one, drop-cons l i 0 far) (plain octets end p d (get_or l i 0) (drop (suc i) l) a b r));
      }

-- octets that are passed over up to the next C0
pub run_passes : (s : Stream) → (s.head.phase ≡ outside) ⊎ (s.head.phase ≡ dropping) → (l : List ℕ) (k : ℕ) → k ≤ first (λ b. eqb b fend) l → Reaches s l s (drop k l)
unfolding first stored_by
run_passes s p l zero h = reaches_itself s l
run_passes s p [] (suc k) h = absurd (omega arith)
run_passes s p (x ∷ l) (suc k) h =
    by (eqb x fend)
    (λ e. let n : suc k ≤ 0 = rw e at h in absurd (omega arith))
    (λ e. let n : suc k ≤ suc (first (λ b. eqb b fend) l) = rw e at h in
    let moves = idle_move s.head x p e in
    reaches_on s (x ∷ l) s l s (drop k l) (step_goes s.octets s.head x l _ _ (sym moves) (rw moves refl) refl) (run_passes s p l k (omega arith)))
