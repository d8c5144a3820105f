-- The answers of decoding: the numbers of document 01, and of document 02, M-108 and M-109, for them, with the details that they give.
use Rattle.std.specs.Prelude.{ℕ, Bool, true, false, Result, Ok, Err}
pub use Rattle.parse.specs.Report.{Report, number}
use Rattle.decode.specs.declared.DecodeError.{DecodeError}
use Rattle.decode.specs.declared.DecodeError.TheVariants as error

-- that an input is accepted, or why it is refused
abbrev pub DecodeAnswer : Type 0
DecodeAnswer = Result (Unit {0}) DecodeError

abbrev pub error_report : DecodeError → Report
error_report error.OnlyNullBytes = number 1
error_report error.NoEndToAddressField = number 2
error_report (error.AddressFieldTooShort start end) = record { number = 3; start = start; end = end; len = 0 }
error_report (error.FrameTooShort len) = record { number = 4; start = 0; end = 0; len = len }
error_report error.MissingPidField = number 5
error_report error.UnrecognisedUFieldType = number 7
error_report error.WrongSizeFrmrInfo = number 8
error_report error.TooManyRepeaters = number 9
error_report error.LeadingNullBytes = number 10
error_report error.FrameRejectInLongMode = number 11
error_report error.MissingControlOctet = number 12

abbrev pub error_number : DecodeError → ℕ
error_number e = (error_report e).number

abbrev pub report_of : DecodeAnswer → Report
report_of (Ok u) = number 0
report_of (Err e) = error_report e

abbrev pub number_of : DecodeAnswer → ℕ
number_of a = (report_of a).number

abbrev pub is_accepted : DecodeAnswer → Bool
is_accepted (Ok u) = true
is_accepted (Err e) = false

-- what an accepted input gives, or why it is refused
abbrev pub answer_with : {T : Type 0} → DecodeAnswer → T → Result T DecodeError
answer_with (Ok u) x = Ok x
answer_with (Err e) x = Err e
