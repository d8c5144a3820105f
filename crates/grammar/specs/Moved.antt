-- What decoding gives of the last octets of a capture, as places in the capture (document 02, M-108).
use Rattle.std.specs.Prelude.{ℕ, ◌+◌, cond, eqb, Ok, Err}
use Rattle.decode.specs.Answer.{DecodeAnswer}
use Rattle.decode.specs.declared.DecodeError.{DecodeError}
use Rattle.decode.specs.declared.DecodeError.TheVariants as error
use Rattle.decode.specs.Read.{Decoding}

-- of a refusal of what follows the first k of `len` octets: start and end are counted from the first of the `len`, and 4's length is `len`
abbrev pub moved_error : ℕ → ℕ → DecodeError → DecodeError
moved_error k len error.OnlyNullBytes = error.OnlyNullBytes
moved_error k len error.NoEndToAddressField = error.NoEndToAddressField
moved_error k len (error.AddressFieldTooShort start end) = error.AddressFieldTooShort (k + start) (k + end)
moved_error k len (error.FrameTooShort rest) = error.FrameTooShort len
moved_error k len error.MissingPidField = error.MissingPidField
moved_error k len error.UnrecognisedUFieldType = error.UnrecognisedUFieldType
moved_error k len error.WrongSizeFrmrInfo = error.WrongSizeFrmrInfo
moved_error k len error.TooManyRepeaters = error.TooManyRepeaters
moved_error k len error.LeadingNullBytes = error.LeadingNullBytes
moved_error k len error.FrameRejectInLongMode = error.FrameRejectInLongMode
moved_error k len error.MissingControlOctet = error.MissingControlOctet

-- and of an answer
abbrev pub moved_answer : ℕ → ℕ → DecodeAnswer → DecodeAnswer
moved_answer k len (Ok u) = Ok u
moved_answer k len (Err e) = Err (moved_error k len e)

-- where info starts; 0, where none can start, says that there is none
abbrev pub moved_info : ℕ → ℕ → ℕ
moved_info k at = cond (eqb at 0) 0 (k + at)

abbrev pub moved : ℕ → ℕ → Decoding → Decoding
moved k len d = record {
  answer = moved_answer k len d.answer;
  frame = d.frame;
  info_start = moved_info k d.info_start;
  info_len = d.info_len;
}
