-- What the code shows of a decode, beside the definition of it.
use Rattle.std.specs.Prelude.{Result, Ok, Err}
use Rattle.decode.specs.Read.{Decoding, refused_with}
use Rattle.decode.specs.declared.Decoded.{Decoded}
use Rattle.decode.specs.declared.DecodeError.{DecodeError}
use Rattle.demand_contracts_frames.specs.declared.Shown.{Shown}

-- the four parts as the definition has them
abbrev pub decoding_of : Shown → Decoding
decoding_of d = record { answer = d.answer; frame = d.frame; info_start = d.info_start; info_len = d.info_len }

-- what is shown of an input that is decoded, and of one that is refused: the default frame, and no info
abbrev pub shown_of : Result Decoded DecodeError → Decoding
shown_of (Ok d) = record { answer = Ok tt; frame = d.frame; info_start = d.info_start; info_len = d.info_len }
shown_of (Err e) = refused_with (Err e)
