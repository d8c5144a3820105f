-- What spelling does not look at: an absent mark is spelled as Command, and unused places are not spelled.
use Prim.Native.Nat.{ℕ, zero, suc, ◌+◌, ◌*◌, ◌≤◌, ◌<◌}
use mathlib.Core.Path.{◌≡◌, refl, ap, sym, ◌∙◌}
use mathlib.Core.Bool.{true, false, cond}
use mathlib.Core.List.{List}
use native.Mathlib.Omega.{arith}
use borrow.Author.Tests.{lt-ltb, le-ltb}
use lib.Dec.{ltb}
use lib.ListN.{length, drop}
use Rattle.octets.specs.Octet.{Octets}
use Rattle.octets.proofs.Choice.{by}
use Rattle.address.specs.Address.{PlainAddress}
use Rattle.content.specs.Spell.{has_info}
use Rattle.content.specs.Refused.{stray_info}
use Rattle.content.proofs.Laws.{plain_pid_lem, plain-frmr}
use Rattle.control.specs.declared.Mode.{Mode}
use Rattle.decode.specs.Answer.{is_accepted}
use Rattle.decode.specs.Read.{end_of, accepted_with, decode, info_in, Decoding}
use Rattle.frame.specs.Write.{route_encodable, frame_encodable, content_answer, write_answer, written}
use Rattle.std.specs.Prelude.{Result, Ok, Err}
use Rattle.octets.specs.Outcome.{giving}
use Rattle.frame.specs.Frame.{write_number}
use Rattle.frame.specs.declared.WriteError.{WriteError}
use Rattle.frame.specs.declared.WriteError.TheVariants.{NoRoom}
use Rattle.frame.specs.Spell.{repeater_at, groups_of, destination_mark, source_mark, address_field, spell, made_command, with_mark, Plain, place_in_use, route_in_use, in_use}
use Rattle.frame.specs.declared.Mark.{Mark}
use Rattle.frame.specs.declared.Mark.TheVariants.{Command, Response, Absent}
use Rattle.frame.specs.declared.RouteEntry.{RouteEntry}
use Rattle.frame.specs.declared.Ax25Frame.{Ax25Frame}
use Rattle.decode.proofs.Accepts.{accepts}
use Rattle.grammar.proofs.Back.{after-field, decode-spell}
use Rattle.grammar.proofs.Plain.{read}
use Rattle.grammar.proofs.Direct.{info_kept}

destination-same : (m : Mark) → destination_mark (made_command m) ≡ destination_mark m
destination-same Command = refl
destination-same Response = refl
destination-same Absent = refl

source-same : (m : Mark) → source_mark (made_command m) ≡ source_mark m
source-same Command = refl
source-same Response = refl
source-same Absent = refl

pub mark-spell : (mode : Mode) (f : Ax25Frame) (i : List ℕ) → spell mode (with_mark f) i ≡ spell mode f i
unfolding spell address_field with_mark
mark-spell mode f i = simp (destination-same, source-same)

pub use_at : (route : List RouteEntry) (n k : ℕ) → k < n → n ≤ 8 → repeater_at (route_in_use route n) k ≡ repeater_at route k
unfolding route_in_use place_in_use
use_at route n zero h l = simp (lt-ltb 0 n h)
use_at route n (suc zero) h l = simp (lt-ltb 1 n h)
use_at route n (suc (suc zero)) h l = simp (lt-ltb 2 n h)
use_at route n (suc (suc (suc zero))) h l = simp (lt-ltb 3 n h)
use_at route n (suc (suc (suc (suc zero)))) h l = simp (lt-ltb 4 n h)
use_at route n (suc (suc (suc (suc (suc zero))))) h l = simp (lt-ltb 5 n h)
use_at route n (suc (suc (suc (suc (suc (suc zero)))))) h l = simp (lt-ltb 6 n h)
use_at route n (suc (suc (suc (suc (suc (suc (suc zero))))))) h l = simp (lt-ltb 7 n h)
use_at route n (suc (suc (suc (suc (suc (suc (suc (suc k)))))))) h l = absurd (omega arith)

groups_use : (route : List RouteEntry) (total n k : ℕ) → k ≤ n → n ≤ 8 → groups_of (route_in_use route n) total k ≡ groups_of route total k
unfolding groups_of
groups_use route total n zero h l = refl
groups_use route total n (suc k) h l = rw (groups_use route total n k (omega arith) l, use_at route n k h l)

pub use-spell : (mode : Mode) (f : Ax25Frame) (i : List ℕ) → f.route_count ≤ 8 → spell mode (in_use f) i ≡ spell mode f i
unfolding spell address_field in_use
use-spell mode f i h = simp (groups_use f.route f.route_count f.route_count f.route_count (omega arith) h)

-- what is in use of a frame with a mark
pub use_mark : (f : Ax25Frame) → in_use f ≡ f → in_use (with_mark f) ≡ with_mark f
unfolding in_use with_mark
use_mark f e = ap with_mark e

pub accepted-spell : (mode : Mode) (f : Ax25Frame) (i : List ℕ) → Plain mode f i → is_accepted (decode mode (spell mode f i)).answer ≡ true
unfolding accepted_with
accepted-spell mode f i p = ap (λ (d : Decoding). is_accepted d.answer) (decode-spell mode f i p)

-- of a plain frame writing refuses nothing but too little room
plain_route : (route : List RouteEntry) (n : ℕ) → ((i : ℕ) → i < n → PlainAddress (repeater_at route i).repeater) → route_encodable route n ≡ true
unfolding route_encodable
plain_route route zero f = refl
plain_route route (suc n) f = rw (plain_route route n (λ i h. f i (omega arith)), (f n (omega arith)).writable)

plain-addresses : (mode : Mode) (f : Ax25Frame) (i : List ℕ) → Plain mode f i → frame_encodable f ≡ true
unfolding frame_encodable
plain-addresses mode f i p = rw (p.destination.writable, p.source.writable, plain_route f.route f.route_count p.repeaters)

plain_info : (mode : Mode) (f : Ax25Frame) (i : List ℕ) → Plain mode f i → stray_info f.content (length i) ≡ false
plain_info mode f i p = by (has_info f.content) (λ e. rw e) (λ e. rw (e, p.bare e))

plain-written : (mode : Mode) (f : Ax25Frame) (i : List ℕ) (room : ℕ) → Plain mode f i → write_answer mode f i room ≡ cond (ltb room (length (spell mode f i))) (Err NoRoom) (Ok tt)
unfolding write_answer content_answer
plain-written mode f i room p =
    simp (
      le-ltb 8 f.route_count p.count,
      plain-addresses mode f i p,
      plain-frmr mode f.content p.content,
      plain_info mode f i p,
      plain_pid_lem mode f.content p.content,
    )

mark-written : (mode : Mode) (f : Ax25Frame) (i : List ℕ) (room : ℕ) → write_answer mode (with_mark f) i room ≡ write_answer mode f i room
unfolding write_answer frame_encodable with_mark
mark-written mode f i room = rw (mark-spell mode f i)

-- and of what was decoded
pub decoded-written : (mode : Mode) (s : List ℕ) (room : ℕ) → Octets s → is_accepted (decode mode s).answer ≡ true
    → write_answer mode (decode mode s).frame (info_in s (decode mode s)) room
    ≡ cond (ltb room (length (spell mode (decode mode s).frame (info_in s (decode mode s))))) (Err NoRoom) (Ok tt)
decoded-written mode s room o e =
    let f : Ax25Frame = (decode mode s).frame in
    let i : List ℕ = info_in s (decode mode s) in
    sym (mark-written mode f i room) ∙ plain-written mode (with_mark f) i room (read mode s o e).plain ∙ rw (mark-spell mode) refl

-- of a kind with info, what was decoded spells every octet after the address field again
pub content-spell : (mode : Mode) (s : List ℕ) → Octets s → is_accepted (decode mode s).answer ≡ true → has_info (decode mode s).frame.content ≡ true
    → drop (14 + 7 * (decode mode s).frame.route_count) (spell mode (decode mode s).frame (info_in s (decode mode s))) ≡ drop (end_of s + 1) s
unfolding with_mark
content-spell mode s o e h =
    let i : List ℕ = info_in s (decode mode s) in
    rw (← mark-spell mode (decode mode s).frame i)
    (after-field mode (with_mark (decode mode s).frame) i (read mode s o e).plain ∙ info_kept mode s o (accepts mode s e) h)

-- writing's answer and length go with these
pub written_is : (mode : Mode) (f : Ax25Frame) (i : List ℕ) (room : ℕ)
    → written mode f i room ≡ giving (write_answer mode f i room) (length (spell mode f i))
unfolding written
written_is mode f i room = refl

-- and its number
pub written_number : (mode : Mode) (f : Ax25Frame) (i : List ℕ) (room : ℕ) → write_number (written mode f i room) ≡ write_number (write_answer mode f i room)
unfolding written
written_number mode f i room = kept (write_answer mode f i room)
  where
    kept : (a : Result Unit WriteError) → write_number (giving a (length (spell mode f i))) ≡ write_number a
    kept (Ok tt) = refl
    kept (Err e) = refl
