-- What the dumper prints (document 01, Loader calls and dumper): key=value lines in a fixed order. It reads in the short mode. No number is
-- over 4,096, so `decimal`, the last five digits, shows all of each.
use Rattle.std.specs.Prelude.{ℕ, Bool, cond, List, [], ◌++◌, Result, Ok, Err, ltb, length}
use Prim.Native.String.{String}
use Rattle.control.specs.declared.Mode.TheVariants.{Short}
use Rattle.content.specs.declared.FrameContent.{FrameContent}
use Rattle.decode.specs.Answer.{error_number}
use Rattle.decode.specs.Read.{decode, outcome}
use Rattle.decode.specs.declared.Decoded.{Decoded}
use Rattle.decode.specs.declared.DecodeError.{DecodeError}
use Rattle.frame.specs.declared.Ax25Frame.{Ax25Frame}
use Rattle.decode.specs.declared.DecodeError.TheVariants as error
use Rattle.reason.specs.Reason.{reason_of}
use Rattle.reason.specs.declared.Reason.{Reason}
use Rattle.spelling.specs.Canonical.{canonical}
use Rattle.words.specs.Ascii.{ascii}
use Rattle.words.specs.Words.{decimal, mark_text, kind_text, control_text, pid_text, yes_no, reason_text}
use Rattle.dump.specs.Text.{address_text, route_text}
use Rattle.dump.specs.declared.DumpError.{DumpError}
use Rattle.dump.specs.declared.DumpError.TheVariants.{NoRoom}

-- a key, its value and a line feed
abbrev pub line : String → List ℕ → List ℕ
line key value = ascii key ++ (value ++ ascii "\n")

-- the address field's lines
unfoldable pub station_lines : Ax25Frame → List ℕ
station_lines f =
    line "destination=" (address_text f.destination)
    ++ (line "source=" (address_text f.source) ++ (line "route=" (route_text f.route f.route_count) ++ line "mark=" (mark_text f.command_or_response)))

-- the content's lines
unfoldable pub content_lines : FrameContent → List ℕ
content_lines k = line "kind=" (kind_text k) ++ (line "control=" (control_text k) ++ line "pid=" (pid_text k))

-- the last lines: whether it is canonical, and why not (document 02, M-110)
unfoldable pub spelling_lines : Bool → Reason → List ℕ
spelling_lines c r = line "canonical=" (yes_no c) ++ line "reason=" (reason_text r)

-- the lines of an accepted frame
unfoldable pub frame_text : Decoded → Bool → Reason → List ℕ
frame_text d c r =
    line "answer=" (decimal 0)
    ++ (station_lines d.frame ++ (content_lines d.frame.content ++ (line "info_length=" (decimal d.info_len) ++ spelling_lines c r)))

-- the details that a refusal's number gives
abbrev pub detail_text : DecodeError → List ℕ
detail_text error.OnlyNullBytes = []
detail_text error.NoEndToAddressField = []
detail_text (error.AddressFieldTooShort start end) = line "start=" (decimal start) ++ line "end=" (decimal end)
detail_text (error.FrameTooShort len) = line "length=" (decimal len)
detail_text error.MissingPidField = []
detail_text error.UnrecognisedUFieldType = []
detail_text error.WrongSizeFrmrInfo = []
detail_text error.TooManyRepeaters = []
detail_text error.LeadingNullBytes = []
detail_text error.FrameRejectInLongMode = []
detail_text error.MissingControlOctet = []

unfoldable pub refusal_text : DecodeError → List ℕ
refusal_text e = line "answer=" (decimal (error_number e)) ++ detail_text e

unfoldable pub decoded_text : Result Decoded DecodeError → Bool → Reason → List ℕ
decoded_text (Ok d) c r = frame_text d c r
decoded_text (Err e) c r = refusal_text e

-- the whole: over 4,096 octets, answer 50 alone
unfoldable pub dump_text : List ℕ → List ℕ
dump_text s = cond (ltb 4096 (length s)) (line "answer=" (decimal 50)) (decoded_text (outcome (decode Short s)) (canonical Short s) (reason_of Short s))

-- all of it where there is room, and its length; else 24
unfoldable pub dumped : List ℕ → ℕ → Result ℕ DumpError
dumped text room = cond (ltb room (length text)) (Err NoRoom) (Ok (length text))

abbrev pub dump_number : DumpError → ℕ
dump_number NoRoom = 24
