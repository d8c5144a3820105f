-- What holds of whatever an octet does.
use Prim.Native.Nat.{ℕ, ◌+◌, ◌≤◌, ◌<◌}
use mathlib.Core.Path.{◌≡◌, refl}
use Rattle.std.specs.Prelude.{Some, None}
use mathlib.Core.Bool.{true, false, cond}
use mathlib.Core.Logic.{◌⊎◌, inl, inr}
use native.Mathlib.Omega.{arith}
use borrow.Author.Tests.{eqb-true, ltb-true, ltb-false}
use lib.Dec.{ltb, eqb}
use Rattle.octets.specs.Octet.{field}
use Rattle.octets.proofs.Choice.{by, either}
use Rattle.escapes.specs.Escape.{fend, fesc, tfend, tfesc}
use Rattle.kiss.specs.Packet.{last_port}
use Rattle.kiss_state.specs.declared.Head.{Head}
use Rattle.kiss_state.specs.declared.Stream.{Stream}
use Rattle.kiss_state.specs.State.{room, outside, opened, in_data, in_escape, dropping, in_type, head_of, phased, none_in}
use Rattle.kiss_state.proofs.Laws.{Sound}
use Rattle.kiss_octet.specs.declared.Move.{Move}
use Rattle.kiss_octet.specs.Step.{drop_of, quiet_of, put_of, typed_of, stray_of, unescaped, outside_of, opened_of, data_of, move_of, step_of}

-- an escaped type octet is C0, on port 12, or DB, with command 11: whatever follows DB in its place, the packet is dropped
pub type-stray : (h : Head) (b : ℕ) → unescaped (typed_of h) h b ≡ stray_of h b
unfolding unescaped typed_of stray_of
type-stray h b =
    by (eqb b tfend)
    (λ e. rw (eqb-true b tfend e) refl)
    (λ e. by (eqb b tfesc) (λ f. rw (eqb-true b tfesc f) refl) (λ f. rw (e, f) refl))

-- ---- what an octet does in a phase
module _ (h : Head) (b : ℕ) where
  pub plain_move : h.phase ≡ in_data → eqb b fend ≡ false → eqb b fesc ≡ false → move_of h b ≡ put_of h b
  unfolding move_of data_of
  plain_move p f e = rw (p, f, e) refl

  pub escape_move : h.phase ≡ in_data → eqb b fend ≡ false → eqb b fesc ≡ true → move_of h b ≡ quiet_of (phased h in_escape)
  unfolding move_of data_of
  escape_move p f e = rw (p, f, e) refl

  pub fend_move : h.phase ≡ in_escape → eqb b tfend ≡ true → move_of h b ≡ put_of h fend
  unfolding move_of unescaped
  fend_move p e = rw (p, e) refl

  pub fesc_move : h.phase ≡ in_escape → eqb b tfend ≡ false → eqb b tfesc ≡ true → move_of h b ≡ put_of h fesc
  unfolding move_of unescaped
  fesc_move p e f = rw (p, e, f) refl

  -- before the first C0, and of a packet that is dropped
  pub idle_move : (h.phase ≡ outside) ⊎ (h.phase ≡ dropping) → eqb b fend ≡ false → move_of h b ≡ quiet_of h
  unfolding move_of outside_of
  idle_move (inl p) e = rw (p, e) refl
  idle_move (inr p) e = rw (p, e) refl

-- ---- what holds of every move
-- the moves that there are: what holds of each of them holds of what an octet does
pub record Moves (h : Head) (b : ℕ) (P : Move → Type 0) : Type 0 where
  pub same : P (quiet_of h)
  pub opens : P (quiet_of (none_in h opened))
  pub waits : (f : ℕ) → f ≤ in_type → P (quiet_of (phased h f))
  pub drops : (f : ℕ) → f ≤ in_type → P (quiet_of (drop_of h f))
  pub starts : (p : ℕ) → p ≤ last_port → P (quiet_of (head_of 0 p in_data h.dropped))
  pub stores : (z : ℕ) → h.length < room → P (record { head = head_of (h.length + 1) h.port in_data h.dropped; octet = Some z; ready = false })
  pub closes : eqb b fend ≡ true → P (record { head = phased h opened; octet = None; ready = true })

module _ (h : Head) (b : ℕ) (P : Move → Type 0) (m : Moves h b P) where
  put_by : (z : ℕ) → P (put_of h z)
  unfolding put_of
  put_by z = either P (ltb h.length room) (λ e. m.stores z (ltb-true h.length room e)) (λ _. m.drops dropping (omega arith))

  typed_by : (t : ℕ) → P (typed_of h t)
  unfolding typed_of
  typed_by t =
      let dropped = m.drops dropping (omega arith) in
      either P (eqb (field 0 4 t) 0)
      (λ _. either P (ltb last_port (field 4 4 t)) (λ _. dropped) (λ e. m.starts (field 4 4 t) (ltb-false last_port (field 4 4 t) e)))
      (λ _. dropped)

  stray_phase : cond (eqb b fend) opened dropping ≤ in_type
  stray_phase = either (λ (f : ℕ). f ≤ in_type) (eqb b fend) (λ _. omega arith) (λ _. omega arith)

  behind_by : (does : ℕ → Move) → ((z : ℕ) → P (does z)) → P (unescaped does h b)
  unfolding unescaped stray_of
  behind_by does w =
      either P (eqb b tfend)
      (λ _. w fend)
      (λ _. either P (eqb b tfesc) (λ _. w fesc) (λ _. m.drops (cond (eqb b fend) opened dropping) stray_phase))

  pub move_by : P (move_of h b)
  unfolding move_of data_of opened_of outside_of
  move_by =
      either P (eqb h.phase in_data)
      (λ _. either P (eqb b fend) m.closes (λ _. either P (eqb b fesc) (λ _. m.waits in_escape (omega arith)) (λ _. put_by b)))
      (λ _. either P (eqb h.phase opened)
      (λ _. either P (eqb b fend) (λ _. m.same) (λ _. either P (eqb b fesc) (λ _. m.waits in_type (omega arith)) (λ _. typed_by b)))
      (λ _. either P (eqb h.phase in_escape) (λ _. behind_by (put_of h) put_by)
      (λ _. either P (eqb h.phase in_type) (λ _. behind_by (typed_of h) typed_by)
      (λ _. either P (eqb b fend) (λ _. m.opens) (λ _. m.same)))))

-- an octet keeps the states that calls make so
none_sound : (f d : ℕ) → f ≤ in_type → Sound (head_of 0 0 f d)
none_sound f d l = record { length_in = omega arith; port_in = omega arith; phase_in = l }

move_keeps : (h : Head) (b : ℕ) → Sound h → Sound (move_of h b).head
unfolding drop_of
move_keeps h b k =
    move_by h b (λ m. Sound m.head) (record {
      same = k;
      opens = none_sound opened h.dropped (omega arith);
      waits = λ f l. record { length_in = k.length_in; port_in = k.port_in; phase_in = l };
      drops = λ f l. none_sound f _ l;
      starts = λ p l. record { length_in = omega arith; port_in = l; phase_in = omega arith };
      stores = λ z l. record { length_in = omega (arith, l); port_in = k.port_in; phase_in = omega arith };
      closes = λ _. record { length_in = k.length_in; port_in = k.port_in; phase_in = omega arith };
    })

pub step_keeps : (s : Stream) (b : ℕ) → Sound s.head → Sound (step_of s b).head
unfolding step_of
step_keeps s b k = move_keeps s.head b k
