-- What writing content into a lent buffer gives and leaves there (document 01, Writing and Numbers; document 02, M-105 and M-109).
use Rattle.std.specs.Prelude.{ℕ, ◌+◌, Bool, cond, Result, Ok, Err, List, ltb, length}
use Rattle.octets.specs.Outcome.{number_by, giving, octets_by}
use Rattle.control.specs.declared.Mode.{Mode}
use Rattle.content.specs.Spell.{front, spell_content}
use Rattle.content.specs.Refused.{long_frmr, stray_info, stray_pid}
use Rattle.content.specs.declared.FrameContent.{FrameContent}
use Rattle.encoding.specs.declared.EncodeError.{EncodeError}
use Rattle.encoding.specs.declared.EncodeError.TheVariants.{FrameRejectInLongMode, InfoNotAllowed, PidOutsideClass, NoRoom}

-- 24: the room is shorter than needed (docs/DIFFERENCES.md, B4)
abbrev pub lacks_room : Mode → FrameContent → ℕ → ℕ → Bool
lacks_room m k info room = ltb room (length (front m k) + info)

-- the answer to content and the length of its info, where all that is written has so many octets, and to the room for that
unfoldable pub judged : Mode → FrameContent → ℕ → ℕ → ℕ → Result Unit EncodeError
judged m k info whole room =
    cond (long_frmr m k) (Err FrameRejectInLongMode)
    (cond (stray_info k info) (Err InfoNotAllowed)
    (cond (stray_pid k) (Err PidOutsideClass)
    (cond (ltb room whole) (Err NoRoom)
    (Ok tt))))

-- the answer to content, the length of its info and the room for both
abbrev pub answer_of : Mode → FrameContent → ℕ → ℕ → Result Unit EncodeError
answer_of m k info room = judged m k info (length (front m k) + info) room

-- the number of a refusal, and of an answer (document 01, Numbers; 11 and 25 are document 02's, M-109 and M-105)
abbrev pub error_number : EncodeError → ℕ
error_number FrameRejectInLongMode = 11
error_number InfoNotAllowed = 23
error_number PidOutsideClass = 25
error_number NoRoom = 24

abbrev pub encode_number : {T : Type 0} → Result T EncodeError → ℕ
encode_number a = number_by error_number a

-- how many octets are written, or the refusal
abbrev pub encode_of : Mode → FrameContent → ℕ → ℕ → Result ℕ EncodeError
encode_of m k info room = giving (answer_of m k info room) (length (front m k) + info)

-- the octets that are written; a refusal writes nothing
abbrev pub encoded : Mode → FrameContent → List ℕ → ℕ → List ℕ
encoded m k info room = octets_by (answer_of m k (length info) room) (spell_content m k info)
