-- The places of a decode, as the comparison reads them.
use Rattle.std.specs.Prelude.{ℕ, Result, Ok, Err, List, [], ◌∷◌, ◌++◌}
use Rattle.decode.specs.Answer.{DecodeAnswer, Report, number, error_report, report_of}
use Rattle.decode.specs.Read.{Decoding, nothing}
use Rattle.decode.specs.declared.Decoded.{Decoded}
use Rattle.decode.specs.declared.DecodeError.{DecodeError}

-- the details of an answer: start and end of number 3, length of number 4
abbrev pub details_of : DecodeAnswer → List ℕ
details_of a = (report_of a).start ∷ (report_of a).end ∷ (report_of a).len ∷ []

-- the places of a decode: the details, then where the info starts and how long it is
abbrev pub places_of : Decoding → List ℕ
places_of d = details_of d.answer ++ (d.info_start ∷ d.info_len ∷ [])

-- the same of what the code has in hand, where what stands for a refused input has no info
abbrev pub report_in : Result Decoded DecodeError → Report
report_in (Ok d) = number 0
report_in (Err e) = error_report e

abbrev pub details_in : Result Decoded DecodeError → List ℕ
details_in r = (report_in r).start ∷ (report_in r).end ∷ (report_in r).len ∷ []

abbrev pub shown : Result Decoded DecodeError → Decoded
shown (Ok d) = d
shown (Err e) = nothing

abbrev pub places_in : Result Decoded DecodeError → List ℕ
places_in r = details_in r ++ ((shown r).info_start ∷ (shown r).info_len ∷ [])
