-- Demand 1, proved: each number is given exactly when its row is the first of its table that holds; nothing decodes to
-- `UnknownContent`.
use Prim.Native.Nat.{ℕ}
use mathlib.Core.Path.{◌≡◌, refl, ap, sym, ◌∙◌}
use mathlib.Core.Bool.{true, false≢true}
use mathlib.Core.List.{List, []}
use mathlib.Core.Logic.{◌↔◌}
use lib.ListN.{length}
use Rattle.octets.specs.Splice.{splice}
use Rattle.octets.proofs.Splice.{splice_none}
use Rattle.text.specs.Text.{address_number_of, read_parts, read_text}
use Rattle.printing.specs.Print.{print_number_of, printed}
use Rattle.address.specs.declared.Address.{Address}
use Rattle.text.proofs.Laws.{text_numbers, parts_numbers}
use Rattle.printing.proofs.Laws.{print_numbers}
use Rattle.content.specs.Refused.{stray_info, stray_pid}
use Rattle.content.proofs.Laws.{stray_one}
use Rattle.control.specs.declared.Mode.{Mode}
use Rattle.decode.specs.Answer.{number_of}
use Rattle.frame.specs.Frame.{write_number}
use Rattle.decode.specs.Read.{decode}
use Rattle.frame.specs.Spell.{spell}
use Rattle.frame.specs.Write.{write_answer, octets_written, written}
use Rattle.std.specs.Prelude.{Result, Ok, Err}
use Rattle.octets.specs.Outcome.{length_of, giving}
use Rattle.frame.specs.declared.WriteError.{WriteError}
use Rattle.frame.specs.declared.Ax25Frame.{Ax25Frame}
use Rattle.grammar.proofs.Numbers.{decode-rows, write-rows}
use Rattle.grammar.proofs.Refused.{refused-octets, accepted-octets, number_zero}
use Rattle.grammar.proofs.Respell.{written_is}
use Rattle.octets.specs.Outcome.{number_by}
use Rattle.octets.specs.Table.{Table, given, FirstRow}
use Rattle.demands.specs.Numbers.{decode_table, write_table, print_table, parts_table, text_table}
use Rattle.octets.specs.Lent.{starting}
use Rattle.octets.proofs.Table.{exactly}
use Rattle.octets.proofs.Lent.{splice_start}

-- a number that a table gives is given exactly when its row is the first that holds
by-table : (x : ℕ) (rows : Table) → x ≡ given rows → (n : ℕ) → (x ≡ n) ↔ FirstRow rows n
by-table x rows e n = rw e (exactly rows n)

pub decoding : (mode : Mode) (s : List ℕ) (n : ℕ) → (number_of (decode mode s).answer ≡ n) ↔ FirstRow (decode_table mode s) n
unfolding given
decoding mode s n = by-table _ (decode_table mode s) (decode-rows mode s) n

pub writing : (mode : Mode) (f : Ax25Frame) (info : List ℕ) (room n : ℕ) → (write_number (write_answer mode f info room) ≡ n) ↔ FirstRow (write_table mode f info room) n
unfolding given
writing mode f info room n = by-table _ (write_table mode f info room) (write-rows mode f info room) n

pub printing : (a : Address) (room n : ℕ) → (number_by print_number_of (printed a room) ≡ n) ↔ FirstRow (print_table a room) n
unfolding given
printing a room n = by-table _ (print_table a room) (print_numbers a room) n

pub parts : (c : List ℕ) (ssid n : ℕ) → (number_by address_number_of (read_parts c ssid) ≡ n) ↔ FirstRow (parts_table c ssid) n
unfolding given
parts c ssid n = by-table _ (parts_table c ssid) (parts_numbers c ssid) n

pub text : (t : List ℕ) (n : ℕ) → (number_by address_number_of (read_text t) ≡ n) ↔ FirstRow (text_table t) n
unfolding given
text t n = by-table _ (text_table t) (text_numbers t) n

-- 23 and 25 never hold of the same frame
pub info-or_pid : (f : Ax25Frame) (n : ℕ) → stray_info f.content n ≡ true → stray_pid f.content ≡ true → ⊥
info-or_pid f n i p = false≢true (sym (stray_one f.content n i) ∙ p)

-- the length of a refusal, and of an answer that is none
no_length : (a : Result Unit WriteError) (n : ℕ) → (write_number a ≡ 0 → ⊥) → length_of (giving a n) ≡ 0
no_length (Ok tt) n h = absurd (h refl)
no_length (Err e) n h = refl

its_length : (a : Result Unit WriteError) (n : ℕ) → write_number a ≡ 0 → length_of (giving a n) ≡ n
its_length a n h = rw (number_zero a h) refl

-- a refused write has length 0, and what it leaves in a buffer is what was there
pub refused_write : (mode : Mode) (f : Ax25Frame) (info : List ℕ) (room : ℕ) → (write_number (write_answer mode f info room) ≡ 0 → ⊥)
    → (length_of (written mode f info room) ≡ 0) × ((out : List ℕ) → splice out 0 (octets_written mode f info room) ≡ out)
refused_write mode f info room n =
    let e : octets_written mode f info room ≡ [] = refused-octets mode f info room n in
    (ap length_of (written_is mode f info room) ∙ no_length (write_answer mode f info room) (length (spell mode f info)) n, λ out. rw e (splice_none out 0))

-- an accepted write puts what the frame spells at the start of the buffer
pub accepted_write : (mode : Mode) (f : Ax25Frame) (info out : List ℕ) → write_number (write_answer mode f info (length out)) ≡ 0
    → (length_of (written mode f info (length out)) ≡ length (spell mode f info))
    × (splice out 0 (octets_written mode f info (length out)) ≡ starting (spell mode f info) out)
accepted_write mode f info out n =
    let o = accepted-octets mode f info (length out) n in
    (ap length_of (written_is mode f info (length out)) ∙ its_length (write_answer mode f info (length out)) (length (spell mode f info)) n, rw o.0 (splice_start out (spell mode f info) o.1))
