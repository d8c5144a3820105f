-- The record of a link that is followed (document 02, M-112): what its numbers mean, and which records are refused.
use Rattle.std.specs.Prelude.{ℕ, ◌+◌, Bool, cond, ◌&&◌, ◌||◌, Result, Ok, Err, ltb, leb}
use Rattle.address.specs.Address.{encodable}
use Rattle.address.specs.declared.Address.{Address}
use Rattle.decode.specs.Answer.{error_number as decode_number}
use Rattle.octets.specs.Outcome.{number_by}
use Rattle.hops.specs.Station.{same_station}
use Rattle.link_record.specs.declared.Link.{Link}
use Rattle.link_record.specs.declared.LinkError.{LinkError}
use Rattle.link_record.specs.declared.LinkError.TheVariants.{NotEncodable, EqualStations, Unsound, Full, Refused}

-- the states of a link; a number over these is read as idle
abbrev pub idle : ℕ
idle = 0

abbrev pub asked_by_a : ℕ
asked_by_a = 1

abbrev pub asked_by_b : ℕ
asked_by_b = 2

abbrev pub up : ℕ
up = 3

-- how many frames a record takes
abbrev pub most : ℕ
most = 65535

-- the numbers: 22 for a station, 72 for both, 73 and 71 for the record, decoding's for the frame
abbrev pub error_number : LinkError → ℕ
error_number NotEncodable = 22
error_number EqualStations = 72
error_number Unsound = 73
error_number Full = 71
error_number (Refused a) = decode_number a

-- that a frame was offered, or why it was not
abbrev pub LinkAnswer : Type 0
LinkAnswer = Result (Unit {0}) LinkError

abbrev pub number_of : LinkAnswer → ℕ
number_of a = number_by error_number a

-- a fresh record: the two stations, and zeros
unfoldable pub fresh : Address → Address → Link
fresh a b = record {
  a = a;
  b = b;
  state = idle;
  expected_from_a = 0;
  expected_from_b = 0;
  moved_from_a = 0;
  moved_from_b = 0;
  in_order = 0;
  repeated = 0;
  gaps = 0;
  outside = 0;
  offered = 0;
}

-- the four counts together. The sum is one of plain numbers, which no width cuts off
unfoldable pub counted : Link → ℕ
counted l = l.in_order + l.repeated + l.gaps + l.outside

-- 73: the counts are over the number offered, or a direction expects over 7, whatever the state is
unfoldable pub unsound : Link → Bool
unsound l = ltb l.offered (counted l) || (ltb 7 l.expected_from_a || ltb 7 l.expected_from_b)

-- both stations can be written
abbrev pub stations_encodable : Link → Bool
stations_encodable l = encodable l.a && encodable l.b

-- what a record is refused by before a frame is looked at, in this order: 22, 72, 73, 71. `Ok` where it takes one more
unfoldable pub refusal : Link → LinkAnswer
refusal l =
    cond (stations_encodable l)
    (cond (same_station l.a l.b) (Err EqualStations)
    (cond (unsound l) (Err Unsound)
    (cond (leb most l.offered) (Err Full) (Ok tt))))
    (Err NotEncodable)
