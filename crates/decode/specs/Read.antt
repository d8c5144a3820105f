-- Reading a frame: document 01's rules 1, 2, 4 and 5, and the numbers in their order, document 02's 10 (M-108), 11 and 12 (M-109) among
-- them.
use Rattle.std.specs.Prelude.{ℕ, ◌+◌, ◌-◌, ◌*◌, ◌/◌, Bool, true, false, cond, not, Result, Ok, Err, List, [], ◌∷◌, eqb, ltb, length, take, drop}
use Rattle.octets.specs.Octet.{bit}
use Rattle.octets.specs.First.{first}
use Rattle.group.specs.Group.{address_of, mark_of}
use Rattle.group.specs.declared.ParsedAddress.{ParsedAddress}
use Rattle.control.specs.declared.Mode.{Mode}
use Rattle.content.specs.declared.FrameContent.{FrameContent}
use Rattle.parse.specs.declared.ContentError.{ContentError}
use Rattle.parse.specs.declared.ContentError.TheVariants as content
use Rattle.parse.specs.Content.{content_of}
use Rattle.content.specs.Spell.{has_info, front}
use Rattle.frame.specs.Frame.{no_entry, default_frame}
use Rattle.frame.specs.declared.Mark.{Mark}
use Rattle.frame.specs.declared.Mark.TheVariants.{Command, Response, Absent}
use Rattle.frame.specs.declared.RouteEntry.{RouteEntry}
use Rattle.frame.specs.declared.Ax25Frame.{Ax25Frame}
use Rattle.decode.specs.Answer.{DecodeAnswer, answer_with}
use Rattle.decode.specs.declared.DecodeError.{DecodeError}
use Rattle.decode.specs.declared.DecodeError.TheVariants as error
use Rattle.decode.specs.declared.Decoded.{Decoded}

abbrev pub nonzero : ℕ → Bool
nonzero b = not (eqb b 0)

-- rule 1: the start is the first nonzero octet, the end the first octet with its low bit set; the length stands for none
abbrev pub start_of : List ℕ → ℕ
start_of s = first nonzero s

abbrev pub end_of : List ℕ → ℕ
end_of s = first (bit 0) s

-- rule 2: destination, source and repeaters are the groups of seven from the start on. Leftover octets are ignored (A2)
abbrev pub group_at : List ℕ → ℕ → List ℕ
group_at s at = take 7 (drop at s)

unfoldable pub parsed_at : List ℕ → ℕ → ParsedAddress
parsed_at s at = record { address = address_of (group_at s at); high_bit = mark_of (group_at s at) }

unfoldable pub entry_at : List ℕ → ℕ → RouteEntry
entry_at s at = record { repeater = (parsed_at s at).address; has_repeated = (parsed_at s at).high_bit }

-- place i of a route of n repeaters that starts at `at`
unfoldable pub place_at : List ℕ → ℕ → ℕ → ℕ → RouteEntry
place_at s at n i = cond (ltb i n) (entry_at s (at + 7 * i)) no_entry

unfoldable pub route_at : List ℕ → ℕ → ℕ → List RouteEntry
route_at s at n =
    place_at s at n 0 ∷ place_at s at n 1 ∷ place_at s at n 2 ∷ place_at s at n 3
    ∷ place_at s at n 4 ∷ place_at s at n 5 ∷ place_at s at n 6 ∷ place_at s at n 7 ∷ []

-- rule 4: by the marks of destination and source, whatever the kind is (docs/DIFFERENCES.md, A15)
abbrev pub command_of : Bool → Bool → Mark
command_of true false = Command
command_of false true = Response
command_of true true = Absent
command_of false false = Absent

-- the frame whose groups start at `start`, with n repeaters and this content
unfoldable pub frame_at : List ℕ → ℕ → ℕ → FrameContent → Ax25Frame
frame_at s start n k = record {
  source = (parsed_at s (start + 7)).address;
  destination = (parsed_at s start).address;
  route = route_at s (start + 14) n;
  route_count = n;
  command_or_response = command_of (parsed_at s start).high_bit (parsed_at s (start + 7)).high_bit;
  content = k;
}

-- what decoding says of an input: the answer, and the frame and the place of its info, which a refusal has too
pub record Decoding : Type 0 where
  pub answer : DecodeAnswer
  pub frame : Ax25Frame
  pub info_start : ℕ
  pub info_len : ℕ

-- what stands for a refused input: the default frame, and no info
abbrev pub nothing : Decoded
nothing = record { frame = default_frame; info_start = 0; info_len = 0 }

-- as the code has it: the frame and the place of its info, or why there is none
abbrev pub outcome : Decoding → Result Decoded DecodeError
outcome d = answer_with d.answer (record { frame = d.frame; info_start = d.info_start; info_len = d.info_len })

-- a refusal: the default frame, and no info
unfoldable pub refused_with : DecodeAnswer → Decoding
refused_with a = record { answer = a; frame = default_frame; info_start = 0; info_len = 0 }

-- a frame whose control octet is at `control`: info, of any length (docs/DIFFERENCES.md, A14), follows control field and PID in I and UI,
-- and the control octet in XID and TEST
unfoldable pub accepted_with : Mode → Ax25Frame → ℕ → ℕ → Decoding
accepted_with m f control len = record {
  answer = Ok tt;
  frame = f;
  info_start = cond (has_info f.content) (control + length (front m f.content)) 0;
  info_len = cond (has_info f.content) (len - (control + length (front m f.content))) 0;
}

-- what the content's refusal is to the frame
abbrev pub error_of : ContentError → DecodeError
error_of content.ContentZeroLength = error.FrameTooShort 0
error_of content.MissingPidField = error.MissingPidField
error_of content.UnrecognisedUFieldType = error.UnrecognisedUFieldType
error_of content.WrongSizeFrmrInfo = error.WrongSizeFrmrInfo
error_of content.FrameRejectInLongMode = error.FrameRejectInLongMode
error_of content.MissingControlOctet = error.MissingControlOctet

-- and its answer
abbrev pub refusal_of : Result FrameContent ContentError → DecodeAnswer
refusal_of (Ok k) = Ok tt
refusal_of (Err e) = Err (error_of e)

-- rule 5: with the content's answer in hand
unfoldable pub with_content : Mode → List ℕ → ℕ → ℕ → ℕ → Result FrameContent ContentError → Decoding
with_content m s start n control (Ok k) = accepted_with m (frame_at s start n k) control (length s)
with_content m s start n control (Err e) = refused_with (Err (error_of e))

-- the number of repeaters of an address field from `start` to `end`
abbrev pub repeaters_of : ℕ → ℕ → ℕ
repeaters_of start end = (end + 1 - start - 14) / 7

-- an address field from `start` to `end`: 3, 4, 9, then the content's number
unfoldable pub decode_field : Mode → List ℕ → ℕ → ℕ → Decoding
decode_field m s start end =
    cond (ltb (end + 1 - start) 14) (refused_with (Err (error.AddressFieldTooShort start end)))
    (cond (eqb (end + 1) (length s)) (refused_with (Err (error.FrameTooShort (length s))))
    (cond (ltb 8 (repeaters_of start end)) (refused_with (Err error.TooManyRepeaters))
    (with_content m s start (repeaters_of start end) (end + 1) (content_of m (drop (end + 1) s)))))

-- the whole: 1; 10 where nulls stand before the start (docs/DIFFERENCES.md, B8), so that every address field starts at 0; 2; then the
-- address field's
unfoldable pub decode : Mode → List ℕ → Decoding
decode m s =
    cond (eqb (start_of s) (length s)) (refused_with (Err error.OnlyNullBytes))
    (cond (ltb 0 (start_of s)) (refused_with (Err error.LeadingNullBytes))
    (cond (eqb (end_of s) (length s)) (refused_with (Err error.NoEndToAddressField))
    (decode_field m s 0 (end_of s))))

-- the info octets that a decode of s reports
abbrev pub info_in : List ℕ → Decoding → List ℕ
info_in s d = take d.info_len (drop d.info_start s)
