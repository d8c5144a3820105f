-- A refused decode is its answer with the default frame and no info; nothing decodes to `UnknownContent`; a refused write writes
-- nothing, and an accepted one what the frame spells.
use Prim.Native.Nat.{ℕ, ◌+◌, ◌≤◌}
use mathlib.Core.Path.{◌≡◌, refl, ap, sym, ◌∙◌}
use mathlib.Core.Bool.{false}
use mathlib.Core.List.{List, []}
use native.Mathlib.Omega.{arith}
use lib.ListN.{length, drop}
use Rattle.octets.proofs.Choice.{by}
use Rattle.content.specs.declared.FrameContent.TheVariants as kind
use Rattle.control.specs.declared.Mode.{Mode}
use Rattle.std.specs.Prelude.{Result, Ok, Err}
use Rattle.parse.proofs.Read.{never_unknown}
use Rattle.decode.specs.Answer.{is_accepted}
use Rattle.frame.specs.Frame.{write_number, simple_ui, default_frame}
use Rattle.frame.specs.Spell.{spell}
use Rattle.octets.specs.Outcome.{octets_by}
use Rattle.frame.specs.Write.{write_answer, octets_written}
use Rattle.frame.specs.declared.WriteError.{WriteError}
use Rattle.frame.specs.declared.WriteError.TheVariants as write
use Rattle.decode.specs.Read.{end_of, frame_at, refused_with, accepted_with, decode, Decoding}
use Rattle.frame.specs.declared.Ax25Frame.{Ax25Frame}
use Rattle.decode.proofs.Accepts.{Accepts, accepts}
use Rattle.decode.proofs.Refusals.{refused_is}
use Rattle.frame.proofs.Write.{accepted_taken}

pub refused_parts : (mode : Mode) (s : List ℕ) → is_accepted (decode mode s).answer ≡ false
    → ((decode mode s).frame ≡ default_frame) × ((decode mode s).info_start ≡ 0) × ((decode mode s).info_len ≡ 0)
unfolding refused_with
refused_parts mode s e =
    let r = refused_is mode s e in
    (ap (λ (d : Decoding). d.frame) r, ap (λ (d : Decoding). d.info_start) r, ap (λ (d : Decoding). d.info_len) r)

made_kind : (mode : Mode) (s : List ℕ) (a : Accepts mode s (decode mode s)) → (decode mode s).frame.content ≡ a.kind
unfolding accepted_with frame_at
made_kind mode s a = ap (λ (d : Decoding). d.frame.content) a.made

pub default_known : default_frame.content ≡ kind.UnknownContent → ⊥
unfolding default_frame simple_ui
default_known u = let z : ◌≡◌ {A = ℕ} 0 1 = cc u in omega arith

-- an accepted input has what its content read as, a refused one the default frame's UI
pub decoded_known : (mode : Mode) (s : List ℕ) → (decode mode s).frame.content ≡ kind.UnknownContent → ⊥
decoded_known mode s u =
    by (is_accepted (decode mode s).answer)
    (λ e. let a = accepts mode s e in never_unknown mode (drop (end_of s + 1) s) (a.read ∙ ap Ok (sym (made_kind mode s a) ∙ u)))
    (λ e. default_known (sym (ap (λ (f : Ax25Frame). f.content) (refused_parts mode s e).0) ∙ u))

-- a refused write writes nothing
nothing : (a : Result Unit WriteError) (s : List ℕ) → (write_number a ≡ 0 → ⊥) → octets_by a s ≡ []
nothing (Ok tt) s n = absurd (n refl)
nothing (Err e) s n = refl

pub refused-octets : (mode : Mode) (f : Ax25Frame) (info : List ℕ) (room : ℕ) → (write_number (write_answer mode f info room) ≡ 0 → ⊥) → octets_written mode f info room ≡ []
unfolding octets_written
refused-octets mode f info room n = nothing (write_answer mode f info room) (spell mode f info) n

-- an accepted one writes what the frame spells, and there is room for it
pub number_zero : (a : Result Unit WriteError) → write_number a ≡ 0 → a ≡ Ok tt
number_zero (Ok tt) e = refl
number_zero (Err write.RouteTooLong) e = absurd (omega (arith, e))
number_zero (Err write.NotEncodable) e = absurd (omega (arith, e))
number_zero (Err write.FrameRejectInLongMode) e = absurd (omega (arith, e))
number_zero (Err write.InfoNotAllowed) e = absurd (omega (arith, e))
number_zero (Err write.PidOutsideClass) e = absurd (omega (arith, e))
number_zero (Err write.NoRoom) e = absurd (omega (arith, e))

pub accepted-octets : (mode : Mode) (f : Ax25Frame) (info : List ℕ) (room : ℕ) → write_number (write_answer mode f info room) ≡ 0
    → (octets_written mode f info room ≡ spell mode f info) × (length (spell mode f info) ≤ room)
unfolding octets_written
accepted-octets mode f info room n =
    let e : write_answer mode f info room ≡ Ok tt = number_zero (write_answer mode f info room) n in
    (rw e refl, (accepted_taken mode f info room e).room)
