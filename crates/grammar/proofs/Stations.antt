-- Reading keeps the reserved bits of every group, and spelling returns them.
use Prim.Native.Nat.{ℕ, zero, suc, ◌+◌, ◌*◌, ◌<◌, ◌≤◌}
use mathlib.Core.Path.{◌≡◌, refl, ap, sym, subst, ◌∙◌}
use mathlib.Core.Bool.{true}
use mathlib.Core.List.{List}
use native.Mathlib.Omega.{arith}
use lib.ListN.{length, get_or}
use Rattle.octets.specs.Octet.{Octets, field}
use Rattle.octets.proofs.Place.{get_d_part}
use Rattle.control.specs.declared.Mode.{Mode}
use Rattle.group.proofs.Laws.{reserved_last}
use Rattle.address.specs.declared.Address.{Address}
use Rattle.decode.specs.Answer.{is_accepted}
use Rattle.decode.specs.Read.{end_of, group_at, parsed_at, frame_at, accepted_with, decode, info_in, Decoding}
use Rattle.decode.proofs.Accepts.{Accepts, accepts}
use Rattle.frame.specs.Spell.{spell, Plain, with_mark, in_use}
use Rattle.frame.specs.declared.RouteEntry.{RouteEntry}
use Rattle.frame.specs.declared.Ax25Frame.{Ax25Frame}
use Rattle.grammar.specs.Stations.{station_at, reserved_at, Reserves}
use Rattle.grammar.proofs.Back.{frame-spell}
use Rattle.grammar.proofs.Marks.{place_read}
use Rattle.grammar.proofs.Plain.{read}
use Rattle.grammar.proofs.Respell.{mark-spell, use_at, accepted-spell}

-- the reserved bits of the address that is read at a group
at_group : (s : List ℕ) (at : ℕ) → (parsed_at s at).address.reserved ≡ field 5 2 (get_or s (at + 6) 0)
unfolding parsed_at
at_group s at = reserved_last (group_at s at) ∙ ap (field 5 2) (get_d_part 7 at s 6 0 (omega arith))

module _ (mode : Mode) (s : List ℕ) (a : Accepts mode s (decode mode s)) where
  abbrev d : Decoding
  d = accepted_with mode (frame_at s 0 a.count a.kind) (end_of s + 1) (length s)

  station_made : (j : ℕ) → j < a.count + 2 → station_at d.frame j ≡ (parsed_at s (7 * j)).address
  unfolding accepted_with frame_at
  station_made zero h = refl
  station_made (suc zero) h = refl
  station_made (suc (suc i)) h =
      let at : 7 * suc (suc i) ≡ 14 + 7 * i = omega arith in
      rw at (place_read s 14 a.count i (omega arith) a.few).0

  reserved_made : Reserves s d.frame
  unfolding accepted_with frame_at
  reserved_made j h = sym (ap (λ (x : Address). x.reserved) (station_made j h) ∙ at_group s (7 * j))

-- those of an accepted input are the frame's
pub reserved_read : (mode : Mode) (s : List ℕ) → is_accepted (decode mode s).answer ≡ true → Reserves s (decode mode s).frame
reserved_read mode s e = let a = accepts mode s e in subst (λ (d : Decoding). Reserves s d.frame) (sym a.made) (reserved_made mode s a)

use_station : (f : Ax25Frame) (j : ℕ) → j < f.route_count + 2 → f.route_count ≤ 8 → station_at (in_use f) j ≡ station_at f j
unfolding in_use
use_station f zero h l = refl
use_station f (suc zero) h l = refl
use_station f (suc (suc i)) h l = ap (λ (x : RouteEntry). x.repeater) (use_at f.route f.route_count i (omega arith) l)

-- those of a plain frame are in what it spells
pub reserved_spelled : (mode : Mode) (f : Ax25Frame) (i : List ℕ) → Plain mode f i → Reserves (spell mode f i) f
unfolding in_use
reserved_spelled mode f i p j h =
    let r = reserved_read mode (spell mode f i) (accepted-spell mode f i p) in
    (rw (frame-spell mode f i p) at r) j h ∙ ap (λ (x : Address). x.reserved) (use_station f j h p.count)

mark_station : (f : Ax25Frame) (j : ℕ) → station_at (with_mark f) j ≡ station_at f j
unfolding with_mark
mark_station f zero = refl
mark_station f (suc zero) = refl
mark_station f (suc (suc i)) = refl

-- so what is read and spelled again has those that it had
pub reserved-again : (mode : Mode) (s : List ℕ) → Octets s → is_accepted (decode mode s).answer ≡ true
    → (j : ℕ) → j < (decode mode s).frame.route_count + 2 → reserved_at (spell mode (decode mode s).frame (info_in s (decode mode s))) j ≡ reserved_at s j
unfolding with_mark
reserved-again mode s o e j h =
    let f : Ax25Frame = (decode mode s).frame in
    let i : List ℕ = info_in s (decode mode s) in
    rw (← mark-spell mode f i)
    (reserved_spelled mode (with_mark f) i (read mode s o e).plain j h
    ∙ ap (λ (x : Address). x.reserved) (mark_station f j)
    ∙ sym (reserved_read mode s e j h))
