-- What is known of an input before its content and its addresses are taken apart.
use Rattle.std.specs.Prelude.{ℕ, ◌+◌, ◌*◌, Bool, cond, Result, Ok, Err, ◌&&◌, List, eqb, ltb, leb, length, drop}
use Rattle.control.specs.declared.Mode.{Mode}
use Rattle.parse.specs.Content.{content_of}
use Rattle.decode.specs.Answer.{answer_with}
use Rattle.decode.specs.Read.{Decoding, start_of, end_of, refused_with, with_content, decode}
use Rattle.decode.specs.declared.DecodeError.{DecodeError}
use Rattle.decode.specs.declared.DecodeError.TheVariants.{OnlyNullBytes, LeadingNullBytes, FrameTooShort}
use Rattle.decode.specs.declared.Outline.{Outline}

-- the outline of what decoding gives, of octets with this end; a refusal has none
abbrev pub outline_by : ℕ → Decoding → Result Outline DecodeError
outline_by end d = answer_with d.answer (record { end = end; route_count = d.frame.route_count })

abbrev pub outline_of : Mode → List ℕ → Result Outline DecodeError
outline_of m s = outline_by (end_of s) (decode m s)

-- whether a frame has places for n repeaters, and so many octets hold their groups and two more
abbrev pub has_groups : ℕ → ℕ → Bool
has_groups len n = leb n 8 && leb (14 + 7 * n) len

-- whether so many octets hold an address field up to `end` with n repeaters
abbrev pub holds : ℕ → ℕ → ℕ → Bool
holds len end n = ltb end len && has_groups (end + 1) n

-- decoding that goes on from an outline. One that tells of more than the octets hold is refused with 4 and their length
unfoldable pub decode_at : Mode → List ℕ → Outline → Decoding
decode_at m s o =
    cond (holds (length s) o.end o.route_count)
    (with_content m s 0 o.route_count (o.end + 1) (content_of m (drop (o.end + 1) s)))
    (refused_with (Err (FrameTooShort (length s))))

-- the same from what is known of an input, of which a refusal stays what it is
abbrev pub decode_by : Mode → List ℕ → Result Outline DecodeError → Decoding
decode_by m s (Ok o) = decode_at m s o
decode_by m s (Err e) = refused_with (Err e)

-- the refusal where the first octet is not there or null
abbrev pub null_error : List ℕ → DecodeError
null_error s = cond (eqb (start_of s) (length s)) OnlyNullBytes LeadingNullBytes
