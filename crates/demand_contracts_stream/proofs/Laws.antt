-- A line that is being used up: how much of it is left, and what has come of it so far.
use Prim.Native.Nat.{ℕ, ◌+◌, ◌-◌, ◌≤◌, ◌<◌}
use mathlib.Core.Path.{◌≡◌, refl, ap, sym, ◌∙◌}
use mathlib.Core.List.{List, []}
use native.Mathlib.Omega.{arith}
use lib.ListN.{length, take, drop, length-drop, length-append, take-append-drop, drop_of_length-le}
use lib.Seq.{take_all, drop-drop}
use Rattle.kiss_state.specs.declared.Head.{Head}
use Rattle.kiss_state.specs.declared.Stream.{Stream}
use Rattle.kiss_state.specs.State.{stream_of}
use Rattle.kiss_stream.specs.declared.Fed.{Fed}
use Rattle.demands_stream.specs.Run.{Run, line_of, then}
use Rattle.demands_stream.proofs.Cut.{Sound, Turns, line_none, line_cut, line_few}
use Rattle.demand_contracts_stream.specs.declared.UsedUp.{UsedUp}

-- the part from a place on, as the language gives it
pub rest_all : (s : List ℕ) (n : ℕ) → take (length s - n) (drop n s) ≡ drop n s
rest_all s n = take_all (length s - n) (drop n s) (omega (arith, length-drop n s))

-- n packets have been given out and i octets taken
pub record Left (whole : Run) (first : ℕ) (octets : List ℕ) (h : Head) (l : List ℕ) (n i : ℕ) : Type 0 where
  pub within : i ≤ length l
  pub few : n ≤ i
  pub sound : Sound h
  pub packets : first + length whole.packets ≡ n + length (line_of (stream_of octets h) (drop i l)).packets
  pub stream : whole.stream ≡ (line_of (stream_of octets h) (drop i l)).stream

pub left_start : (octets : List ℕ) (h : Head) (l : List ℕ) (f : Fed) (u : List ℕ) → Turns octets h l f u
    → Left (line_of (stream_of u f.head) (drop f.taken l)) f.packet.ready u f.head l f.packet.ready f.taken
left_start octets h l f u t = record { within = t.most; few = t.one; sound = t.sound; packets = refl; stream = refl }

pub left_turn : (whole : Run) (first : ℕ) (octets : List ℕ) (h : Head) (l : List ℕ) (n i : ℕ) (f : Fed) (u : List ℕ) → Left whole first octets h l n i
    → i < length l → Turns octets h (drop i l) f u → Left whole first u f.head l (n + f.packet.ready) (i + f.taken)
left_turn whole first octets h l n i f u k r t =
    let rest : drop f.taken (drop i l) ≡ drop (i + f.taken) l = drop-drop f.taken i l in
    let long = length-drop i l in
    let few = k.few in
    let one = t.one in
    let most = t.most in
    let was = k.packets in
    let is = rw rest at t.packets in
    record {
      within = omega arith;
      few = omega arith;
      sound = t.sound;
      packets = omega arith;
      stream = k.stream ∙ rw rest at t.stream;
    }

-- nothing is left
pub left_none : (whole : Run) (first : ℕ) (octets : List ℕ) (h : Head) (l : List ℕ) (n i : ℕ) → Left whole first octets h l n i → length l ≤ i
    → (first + length whole.packets ≡ n) × (whole.stream ≡ stream_of octets h)
left_none whole first octets h l n i k e =
    let none : line_of (stream_of octets h) (drop i l) ≡ record { packets = []; stream = stream_of octets h } =
    rw (drop_of_length-le l e) (line_none octets h k.sound) in
    let long : length (line_of (stream_of octets h) (drop i l)).packets ≡ 0 = ap (λ (r : Run). length r.packets) none in
    let all = k.packets in
    (omega arith, k.stream ∙ ap (λ (r : Run). r.stream) none)

-- a line in two pieces, and what comes of each
module _ (octets : List ℕ) (h : Head) (l : List ℕ) (cut : ℕ) (f g : UsedUp) (u v : List ℕ)
    (f-packets : f.packets ≡ length (line_of (stream_of octets h) (take cut l)).packets)
    (f-head : f.head ≡ (line_of (stream_of octets h) (take cut l)).stream.head)
    (f-octets : u ≡ (line_of (stream_of octets h) (take cut l)).stream.octets)
    (g-packets : g.packets ≡ length (line_of (stream_of u f.head) (drop cut l)).packets)
    (g-head : g.head ≡ (line_of (stream_of u f.head) (drop cut l)).stream.head)
    (g-octets : v ≡ (line_of (stream_of u f.head) (drop cut l)).stream.octets) where
  abbrev s : Stream
  s = stream_of octets h

  both_parts : length (take cut l) + length (drop cut l) ≡ length l
  both_parts = sym (length-append (take cut l) (drop cut l)) ∙ ap length (take-append-drop cut l)

  pub two_few : f.packets + g.packets ≤ length l
  two_few =
      rw (f-packets, g-packets)
      (omega (arith, both_parts, line_few s (take cut l), line_few (stream_of u f.head) (drop cut l)))

  between : stream_of u f.head ≡ (line_of s (take cut l)).stream
  between = rw (f-head, f-octets) refl

  two : line_of s l ≡ then (line_of s (take cut l)) (line_of (stream_of u f.head) (drop cut l))
  two = ap (line_of s) (sym (take-append-drop cut l)) ∙ line_cut s (take cut l) (drop cut l) ∙ rw between refl

  pub two_parts : (f.packets + g.packets ≡ length (line_of s l).packets) × (g.head ≡ (line_of s l).stream.head) × (v ≡ (line_of s l).stream.octets)
  two_parts =
      let all = ap (λ (r : Run). length r.packets) two ∙ length-append (line_of s (take cut l)).packets (line_of (stream_of u f.head) (drop cut l)).packets in
      (rw (f-packets, g-packets) (sym all), g-head ∙ sym (ap (λ (r : Run). r.stream.head) two), g-octets ∙ sym (ap (λ (r : Run). r.stream.octets) two))
