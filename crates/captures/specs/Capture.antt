-- A day's captures (document 02, M-111): many parts of one buffer, each with a record that ends as the single calls answer for that part.
use Rattle.std.specs.Prelude.{ℕ, ◌+◌, Bool, false, cond, List, map, leb, length, take, drop}
use Rattle.control.specs.declared.Mode.{Mode}
use Rattle.content.specs.declared.FrameContent.{FrameContent}
use Rattle.content.specs.declared.FrameContent.TheVariants as kind
use Rattle.frame.specs.Frame.{default_frame}
use Rattle.decode.specs.Answer.{number_of}
use Rattle.decode.specs.Read.{decode}
use Rattle.spelling.specs.Canonical.{canonical}
use Rattle.captures.specs.declared.CaptureRecord.{CaptureRecord}

-- the number of each kind, as include/ax25.h has them, in the order of the kinds. The last is that of no input: none decodes to
-- `UnknownContent`
abbrev pub kind_of : FrameContent → ℕ
kind_of (kind.Information k) = 0
kind_of (kind.ReceiveReady k) = 1
kind_of (kind.ReceiveNotReady k) = 2
kind_of (kind.Reject k) = 3
kind_of (kind.SelectiveReject k) = 4
kind_of (kind.SetAsynchronousBalancedMode k) = 5
kind_of (kind.SetAsynchronousBalancedModeExtended k) = 6
kind_of (kind.Disconnect k) = 7
kind_of (kind.DisconnectedMode k) = 8
kind_of (kind.UnnumberedAcknowledge k) = 9
kind_of (kind.FrameReject k) = 10
kind_of (kind.UnnumberedInformation k) = 11
kind_of (kind.ExchangeIdentification k) = 12
kind_of (kind.Test k) = 13
kind_of kind.UnknownContent = 14

-- a record with these answers; where its part starts and how long it is stay
abbrev pub with_answers : CaptureRecord → ℕ → Bool → FrameContent → CaptureRecord
with_answers r number is k = record { start = r.start; length = r.length; number = number; canonical = cond is 1 0; kind = kind_of k }

-- of a part with these octets: its decode number, whether it is canonical, and the kind of the frame that decoding gives, which is the
-- default frame where the part is refused
unfoldable pub answered : Mode → List ℕ → CaptureRecord → CaptureRecord
answered m s r = with_answers r (number_of (decode m s).answer) (canonical m s) (decode m s).frame.content

-- 61: of a part that is not inside the buffer. It is not canonical, and the kind is that of the default frame
unfoldable pub outside : CaptureRecord → CaptureRecord
outside r = with_answers r 61 false default_frame.content

-- inside a buffer of so many octets: start and length together are at most that. The sum is one of plain numbers, which no width cuts off
unfoldable pub is_inside : ℕ → CaptureRecord → Bool
is_inside len r = leb (r.start + r.length) len

-- a part: so many octets of the buffer, from its start on
abbrev pub part_of : List ℕ → CaptureRecord → List ℕ
part_of s r = take r.length (drop r.start s)

-- one record, by its own part
unfoldable pub filled : Mode → List ℕ → CaptureRecord → CaptureRecord
filled m s r = cond (is_inside (length s) r) (answered m (part_of s r) r) (outside r)

-- all records, each by itself, in their order
unfoldable pub filled_all : Mode → List ℕ → List CaptureRecord → List CaptureRecord
filled_all m s records = map (filled m s) records
