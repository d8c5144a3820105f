-- Relaying (document 02, M-100 and M-102): a frame goes on as it was received, with our own mark set.
use Rattle.std.specs.Prelude.{ℕ, ◌+◌, ◌*◌, Bool, true, cond, Result, Ok, Err, List, [], ◌∷◌, eqb, ltb, length, get_or, set}
use Rattle.octets.specs.Octet.{field, flag}
use Rattle.control.specs.declared.Mode.TheVariants.{Short}
use Rattle.address.specs.Address.{with_ones, encodable}
use Rattle.address.specs.declared.Address.{Address}
use Rattle.frame.specs.Spell.{repeater_at}
use Rattle.frame.specs.declared.Ax25Frame.{Ax25Frame}
use Rattle.decode.specs.Answer.{Report, number, DecodeAnswer}
use Rattle.decode.specs.Answer as decoding
use Rattle.decode.specs.Read.{decode}
use Rattle.hops.specs.Hops.{due_place, broken}
use Rattle.hops.specs.Station.{same_station}
use Rattle.relay.specs.declared.RelayError.{RelayError}
use Rattle.relay.specs.declared.RelayError.TheVariants.{NotEncodable, Refused, RouteUsedUp, BrokenMarks, AnotherStation}

-- that a frame is relayed, or why it is not
abbrev pub RelayAnswer : Type 0
RelayAnswer = Result (Unit {0}) RelayError

-- the numbers: 22 for our own address, decoding's for the frame, 41 to 43 for its route
abbrev pub error_report : RelayError → Report
error_report NotEncodable = number 22
error_report (Refused e) = decoding.error_report e
error_report RouteUsedUp = number 41
error_report BrokenMarks = number 43
error_report AnotherStation = number 42

abbrev pub error_number : RelayError → ℕ
error_number e = (error_report e).number

abbrev pub report_of : RelayAnswer → Report
report_of (Ok u) = number 0
report_of (Err e) = error_report e

-- whether no place is due: the due place equals the route count
abbrev pub used_up : Ax25Frame → Bool
used_up f = eqb (due_place f) f.route_count

-- whether the repeater at the due place is ours, by callsign and SSID
abbrev pub ours : Address → Ax25Frame → Bool
ours own f = same_station own (repeater_at f.route (due_place f)).repeater

-- what a frame is answered that decodes: 41, then 43 where a mark follows the first unmarked place, then 42
unfoldable pub due_answer : Address → Ax25Frame → RelayAnswer
due_answer own f = cond (used_up f) (Err RouteUsedUp) (cond (broken f) (Err BrokenMarks) (cond (ours own f) (Ok tt) (Err AnotherStation)))

-- decoding's refusal comes first
abbrev pub unless_refused : DecodeAnswer → RelayAnswer → RelayAnswer
unless_refused (Ok u) a = a
unless_refused (Err e) a = Err (Refused e)

-- the whole: 22, then decoding's numbers, then those
unfoldable pub relay_answer : Address → List ℕ → RelayAnswer
relay_answer own s =
    cond (encodable own) (unless_refused (decode Short s).answer (due_answer own (decode Short s).frame)) (Err NotEncodable)

-- where the mark of the due place stands: in the seventh octet of its group, which follows destination, source and the repeaters
-- before it (document 01, rules 2 and 3)
abbrev pub due_mark : List ℕ → ℕ
due_mark s = 14 + 7 * due_place (decode Short s).frame + 6

-- an octet or-ed with 80 hex: bit 7 set, the other bits as they were
abbrev pub or_mark : ℕ → ℕ
or_mark b = flag 7 true + field 0 7 b

-- what is left in the buffer: that octet or-ed with 80 hex, or all as it was
abbrev pub left_by : RelayAnswer → List ℕ → List ℕ
left_by (Ok u) s = set s (due_mark s) (or_mark (get_or s (due_mark s) 0))
left_by (Err e) s = s

unfoldable pub relayed : Address → List ℕ → List ℕ
relayed own s = left_by (relay_answer own s) s

-- the station with a callsign of at most six octets, taken as they are and padded with spaces, and an SSID
unfoldable pub station_of : List ℕ → ℕ → Address
station_of c ssid = with_ones (get_or c 0 32 ∷ get_or c 1 32 ∷ get_or c 2 32 ∷ get_or c 3 32 ∷ get_or c 4 32 ∷ get_or c 5 32 ∷ []) ssid

-- the same by callsign and SSID, as C gives them: a longer callsign is no address, and is refused as one that can't be written
unfoldable pub relay_answer_as : List ℕ → ℕ → List ℕ → RelayAnswer
relay_answer_as c ssid s = cond (ltb 6 (length c)) (Err NotEncodable) (relay_answer (station_of c ssid) s)

unfoldable pub relayed_as : List ℕ → ℕ → List ℕ → List ℕ
relayed_as c ssid s = left_by (relay_answer_as c ssid s) s
