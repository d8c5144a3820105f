-- Document 02, M-103, proved: each number is given exactly when its row is the first that holds; what a refusal and an accepted call leave;
-- reading gives back what was written, and accepts nothing else; and the settled cases.
use Prim.Native.Nat.{ℕ, ◌+◌, ◌*◌, ◌≤◌}
use mathlib.Core.Path.{◌≡◌, refl, ◌∙◌}
use mathlib.Core.Bool.{true}
use mathlib.Core.List.{List, map}
use mathlib.Core.Logic.{◌↔◌}
use native.Mathlib.Omega.{arith}
use borrow.Author.Tests.{ltb-true, ltb-false}
use Rattle.std.specs.Prelude.{Result, Ok, Err, is_ok}
use lib.Dec.{ltb}
use lib.ListN.{length, take}
use lib.Seq.{take_at}
use Rattle.octets.specs.Octet.{Octets}
use Rattle.octets.specs.Outcome.{number_by, octets_of}
use Rattle.octets.specs.Splice.{splice}
use Rattle.octets.proofs.Choice.{by}
use Rattle.octets.proofs.Splice.{splice_none}
use Rattle.kiss.specs.Packet.{last_port, packet}
use Rattle.kiss.specs.Write as write
use Rattle.kiss.specs.Write.{octets_written, written}
use Rattle.kiss.specs.declared.KissWriteError.{KissWriteError}
use Rattle.kiss.proofs.Laws.{packet-length, write_fits}
use Rattle.kiss.proofs.Grammar.{write-rows}
use Rattle.kiss_reading.specs.Answer.{number_of, Reading, accepted, port_given, octets_given}
use Rattle.kiss_reading.specs.Read.{heard, typed, type_escaped, opened, read_packet, read_into}
use Rattle.kiss_reading.specs.declared.KissError.{KissError}
use Rattle.kiss_reading.specs.declared.KissError.TheVariants as read
use Rattle.kiss_reading.proofs.Judged.{into-short, into_fits}
use Rattle.demands_kiss.proofs.Spelling.{read-written, only, data-octets, one-packet, packet-most}
use Rattle.demands_kiss.proofs.Numbers.{read-rows}
use Rattle.octets.specs.Table.{given, FirstRow}
use Rattle.octets.specs.Lent.{starting}
use Rattle.demands_kiss.specs.Kiss.{kiss_read_table, kiss_length, kiss_write_table, SpelledPacket, kiss_cases}
use Rattle.octets.proofs.Table.{exactly}
use Rattle.octets.proofs.Lent.{splice_start}

-- ---- the numbers
reading-rows : (s : List ℕ) (room : ℕ) → number_by number_of (read_into s room) ≡ given (kiss_read_table s room)
unfolding given
reading-rows s room = read-rows s room

pub kiss_reading : (s : List ℕ) (room n : ℕ) → (number_by number_of (read_into s room) ≡ n) ↔ FirstRow (kiss_read_table s room) n
kiss_reading s room n = rw (reading-rows s room) (exactly (kiss_read_table s room) n)

writing-rows : (port : ℕ) (s : List ℕ) (room : ℕ) → number_by write.number_of (written port s room) ≡ given (kiss_write_table port s room)
unfolding given
writing-rows port s room = write-rows port s room

pub kiss_writing : (port : ℕ) (s : List ℕ) (room n : ℕ) → (number_by write.number_of (written port s room) ≡ n) ↔ FirstRow (kiss_write_table port s room) n
kiss_writing port s room n = rw (writing-rows port s room) (exactly (kiss_write_table port s room) n)

-- ---- reading
-- reading is accepted where its number is 0
positive : (e : KissError) → 1 ≤ number_of e
positive read.NoOpening = omega arith
positive read.Empty = omega arith
positive read.BadEscape = omega arith
positive read.NotData = omega arith
positive read.PortTooHigh = omega arith
positive read.NoClosing = omega arith
positive read.NoRoom = omega arith

zero-accepted : (r : Reading) → number_by number_of r ≡ 0 → is_ok r ≡ true
zero-accepted (Ok g) e = refl
zero-accepted (Err x) e = absurd (omega (arith, positive x, e))

-- what a 0 rests on
into-accepted : (s : List ℕ) (room : ℕ) → number_by number_of (read_into s room) ≡ 0
    → (is_ok (read_packet s) ≡ true) × (length (octets_given (read_packet s)) ≤ room) × (read_into s room ≡ read_packet s)
into-accepted s room z =
    by (ltb room (length (octets_given (read_packet s))))
    (λ r. absurd (omega (arith, rw (into-short s room (ltb-true _ _ r)) at z)))
    (λ r. let h = ltb-false room (length (octets_given (read_packet s))) r in
    let f = into_fits s room h in
    (zero-accepted (read_packet s) (rw f at z), h, f))

leaves : (r : Reading) → (number_by number_of r ≡ 0 → ⊥)
    → (port_given r ≡ 0) × (length (octets_given r) ≡ 0) × ((out : List ℕ) → splice out 0 (octets_given r) ≡ out)
leaves (Ok g) n = absurd (n refl)
leaves (Err e) n = (refl, refl, λ out. splice_none out 0)

-- a refusal gives port 0 and length 0, and leaves the output as it was
pub refused_kiss_read : (s : List ℕ) (room : ℕ) → (number_by number_of (read_into s room) ≡ 0 → ⊥)
    → (port_given (read_into s room) ≡ 0) × (length (octets_given (read_into s room)) ≡ 0) × ((out : List ℕ) → splice out 0 (octets_given (read_into s room)) ≡ out)
refused_kiss_read s room n = leaves (read_into s room) n

-- an accepted read gives the port and the octets that the input spells, and puts the octets at the start of the output
pub accepted_kiss_read : (s out : List ℕ) → Octets s → number_by number_of (read_into s (length out)) ≡ 0
    → (port_given (read_into s (length out)) ≤ 11)
    × (packet (port_given (read_into s (length out))) (octets_given (read_into s (length out))) ≡ s)
    × (splice out 0 (octets_given (read_into s (length out))) ≡ starting (octets_given (read_into s (length out))) out)
accepted_kiss_read s out o z =
    let a = into-accepted s (length out) z in
    let p = only s o a.0 in
    rw a.2 (p.0, p.1, splice_start out (octets_given (read_packet s)) a.1)

-- of which the length tells them apart from the rest
pub data_left : (s out : List ℕ) → number_by number_of (read_into s (length out)) ≡ 0
    → take (length (octets_given (read_into s (length out)))) (splice out 0 (octets_given (read_into s (length out)))) ≡ octets_given (read_into s (length out))
data_left s out z =
    let a = into-accepted s (length out) z in
    rw a.2 (rw (splice_start out (octets_given (read_packet s)) a.1) (take_at (octets_given (read_packet s)) _ _ refl))

-- ---- writing
-- a refusal has length 0, and leaves the output as it was
leaves_line : (r : Result (List ℕ) KissWriteError) → (number_by write.number_of r ≡ 0 → ⊥)
    → (length (octets_of r) ≡ 0) × ((out : List ℕ) → splice out 0 (octets_of r) ≡ out)
leaves_line (Ok t) n = absurd (n refl)
leaves_line (Err e) n = (refl, λ out. splice_none out 0)

pub refused_kiss_write : (port : ℕ) (s : List ℕ) (room : ℕ) → (number_by write.number_of (written port s room) ≡ 0 → ⊥)
    → (length (octets_written port s room) ≡ 0) × ((out : List ℕ) → splice out 0 (octets_written port s room) ≡ out)
refused_kiss_write port s room n = leaves_line (written port s room) n

-- what a 0 rests on
record Whole (port : ℕ) (s : List ℕ) (room : ℕ) : Type 0 where
  in_range : port ≤ 11
  fits : length (packet port s) ≤ room
  long : length (octets_written port s room) ≡ length (packet port s)
  octets : octets_written port s room ≡ packet port s

whole_by : (port : ℕ) (s : List ℕ) (room : ℕ) → number_by write.number_of (written port s room) ≡ 0 → Whole port s room
whole_by port s room z =
    by (ltb last_port port)
    (λ p. absurd (omega (arith, z, rw p at (write-rows port s room))))
    (λ p. by (ltb room (kiss_length s))
    (λ r. absurd (omega (arith, z, rw (p, r) at (write-rows port s room))))
    (λ r. let n : length (packet port s) ≤ room = omega (arith, packet-length port s, ltb-false room (kiss_length s) r) in
    let w = write_fits port s room (ltb-false _ _ p) n in
    record { in_range = ltb-false _ _ p; fits = n; long = rw w refl; octets = rw w refl }))

-- an accepted write puts the packet at the start of the output; a packet is at most twice as long as its data, and three more
pub accepted_kiss_write : (port : ℕ) (s out : List ℕ) → number_by write.number_of (written port s (length out)) ≡ 0
    → (length (octets_written port s (length out)) ≡ kiss_length s)
    × (length (octets_written port s (length out)) ≤ 2 * length s + 3)
    × (splice out 0 (octets_written port s (length out)) ≡ starting (packet port s) out)
accepted_kiss_write port s out z =
    let w = whole_by port s (length out) z in
    rw (w.long, w.octets) (packet-length port s, packet-most port s, splice_start out (packet port s) w.fits)

-- ---- reading gives back what was written
pub kiss_read-back : (port : ℕ) (s : List ℕ) (room : ℕ) → port ≤ 11 → length s ≤ room → read_into (packet port s) room ≡ accepted port s
kiss_read-back port s room p h =
    let r = read-written port s p in
    into_fits (packet port s) room (rw r h) ∙ r

-- so does reading the octets that an accepted write left
pub kiss_round : (port : ℕ) (s out : List ℕ) (room : ℕ) → number_by write.number_of (written port s (length out)) ≡ 0 → length s ≤ room
    → read_into (take (length (octets_written port s (length out))) (splice out 0 (octets_written port s (length out)))) room ≡ accepted port s
kiss_round port s out room z h =
    let w = whole_by port s (length out) z in
    let left = splice_start out (packet port s) w.fits in
    let start : take (length (packet port s)) (starting (packet port s) out) ≡ packet port s = take_at (packet port s) _ _ refl in
    rw (w.long, w.octets, left, start) (kiss_read-back port s room w.in_range h)

-- ---- one spelling only
-- two inputs that are accepted with the same port and octets are the same
pub kiss_one_spelling : (s t : List ℕ) → Octets s → Octets t → is_ok (read_packet s) ≡ true → is_ok (read_packet t) ≡ true
    → port_given (read_packet s) ≡ port_given (read_packet t) → octets_given (read_packet s) ≡ octets_given (read_packet t) → s ≡ t
kiss_one_spelling s t o p a b e f = one-packet s t o p a b e f

-- what is accepted is what some port and octets spell
pub kiss-accepted : (s : List ℕ) → Octets s → (is_ok (read_packet s) ≡ true) ↔ SpelledPacket s
kiss-accepted s o = (
  (λ a. let p = only s o a in
      record { port = port_given (read_packet s); octets = octets_given (read_packet s); bytes = data-octets s o a; in_range = p.0; spells = p.1 }),
  (λ q. rw (← q.spells, read-written q.port q.octets q.in_range) refl),
)

-- ---- the settled cases
pub kiss-cases : map (λ (c : List ℕ × ℕ). number_by number_of (read_into c.0 1024)) kiss_cases ≡ map (λ (c : List ℕ × ℕ). c.1) kiss_cases
unfolding heard typed type_escaped opened read_packet read_into
kiss-cases = refl
