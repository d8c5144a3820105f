-- Reading one whole packet, octet after octet from left to right: the first thing that is wrong gives the answer (document 02, M-103).
use Rattle.std.specs.Prelude.{ℕ, Bool, true, false, cond, List, [], ◌∷◌, Result, Ok, Err, eqb, ltb, length}
use Rattle.octets.specs.Octet.{field}
use Rattle.escapes.specs.Escape.{fend, fesc, tfend, tfesc}
use Rattle.kiss.specs.Packet.{last_port}
use Rattle.kiss_reading.specs.Answer.{Reading, accepted, octets_given}
use Rattle.kiss_reading.specs.declared.KissError.{KissError}
use Rattle.kiss_reading.specs.declared.KissError.TheVariants.{NoOpening, Empty, BadEscape, NotData, PortTooHigh, NoClosing, NoRoom}

-- one more octet of data before what is heard
abbrev pub more : ℕ → Result (List ℕ) KissError → Result (List ℕ) KissError
more b (Ok s) = Ok (b ∷ s)
more b (Err e) = Err e

-- a closing C0 with nothing behind it, or with octets behind it
abbrev pub closed : List ℕ → Result (List ℕ) KissError
closed [] = Ok []
closed (x ∷ s) = Err NoClosing

-- the data in the octets behind the type octet; `escaped` is whether a DB has just been read
unfoldable pub heard : (escaped : Bool) → List ℕ → Result (List ℕ) KissError
heard false [] = Err NoClosing
heard false (x ∷ s) = cond (eqb x fend) (closed s) (cond (eqb x fesc) (heard true s) (more x (heard false s)))
heard true [] = Err BadEscape
heard true (x ∷ s) = cond (eqb x tfend) (more fend (heard false s)) (cond (eqb x tfesc) (more fesc (heard false s)) (Err BadEscape))

-- a packet from this port, by what stands behind its type octet
abbrev pub on_port : ℕ → Result (List ℕ) KissError → Reading
on_port port (Ok s) = accepted port s
on_port port (Err e) = Err e

-- a type octet, escapes removed, and what stands behind it: the command in its low half first, then the port in its high half
unfoldable pub typed : ℕ → List ℕ → Reading
typed t s =
    cond (eqb (field 0 4 t) 0)
    (cond (ltb last_port (field 4 4 t)) (Err PortTooHigh) (on_port (field 4 4 t) (heard false s)))
    (Err NotData)

-- what stands behind a DB in the type octet's place
unfoldable pub type_escaped : List ℕ → Reading
type_escaped [] = Err BadEscape
type_escaped (x ∷ s) = cond (eqb x tfend) (typed fend s) (cond (eqb x tfesc) (typed fesc s) (Err BadEscape))

-- what stands behind the opening C0
unfoldable pub opened : List ℕ → Reading
opened [] = Err NoClosing
opened (x ∷ s) = cond (eqb x fend) (Err Empty) (cond (eqb x fesc) (type_escaped s) (typed x s))

unfoldable pub read_packet : List ℕ → Reading
read_packet [] = Err NoOpening
read_packet (x ∷ s) = cond (eqb x fend) (opened s) (Err NoOpening)

-- the same with so much room for the data: 24 comes last
unfoldable pub read_into : List ℕ → ℕ → Reading
read_into s room = cond (ltb room (length (octets_given (read_packet s)))) (Err NoRoom) (read_packet s)
