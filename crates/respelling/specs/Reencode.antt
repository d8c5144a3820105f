-- Re-encoding an input into a lent buffer: decoding's number, or 24, or 0.
use Rattle.std.specs.Prelude.{ℕ, Result, Ok, Err, cond, List, [], ltb, length}
use Rattle.control.specs.declared.Mode.{Mode}
use Rattle.decode.specs.Answer.{Report, number, DecodeAnswer, is_accepted}
use Rattle.decode.specs.Answer as decoding
use Rattle.decode.specs.Read.{decode}
use Rattle.spelling.specs.Canonical.{again}
use Rattle.respelling.specs.declared.ReencodeError.{ReencodeError}
use Rattle.respelling.specs.declared.ReencodeError.TheVariants.{Refused, NoRoom}

-- the octets that are due: those of an accepted input, and none of a refused one
unfoldable pub due : Mode → List ℕ → List ℕ
due m s = cond (is_accepted (decode m s).answer) (again m s) []

-- decoding's refusal comes first
abbrev pub unless_refused : DecodeAnswer → Result ℕ ReencodeError → Result ℕ ReencodeError
unless_refused (Ok u) r = r
unless_refused (Err e) r = Err (Refused e)

-- how many octets are written, or why none is: all that are due where there is room
unfoldable pub reencode : Mode → List ℕ → ℕ → Result ℕ ReencodeError
reencode m s room = unless_refused (decode m s).answer (cond (ltb room (length (due m s))) (Err NoRoom) (Ok (length (due m s))))

-- the octets that are written: all that are due where there is room, else none
unfoldable pub reencoded : Mode → List ℕ → ℕ → List ℕ
reencoded m s room = cond (ltb room (length (due m s))) [] (due m s)

-- decoding's number and details for a refused input, else 24 or 0 (document 01, Numbers)
abbrev pub error_report : ReencodeError → Report
error_report (Refused e) = decoding.error_report e
error_report NoRoom = number 24

abbrev pub error_number : ReencodeError → ℕ
error_number e = (error_report e).number

abbrev pub report_of : Result ℕ ReencodeError → Report
report_of (Ok n) = number 0
report_of (Err e) = error_report e
