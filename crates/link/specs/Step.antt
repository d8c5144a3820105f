-- A frame offered to a link (document 02, M-112): who sent it, how it is counted, and the order of the answers.
use Rattle.std.specs.Prelude.{ℕ, ◌+◌, Bool, cond, ◌&&◌, List, Option, Some, None, Ok, Err}
use Rattle.control.specs.declared.Mode.TheVariants.{Short}
use Rattle.address.specs.declared.Address.{Address}
use Rattle.content.specs.declared.FrameContent.{FrameContent}
use Rattle.frame.specs.declared.Ax25Frame.{Ax25Frame}
use Rattle.decode.specs.Answer.{DecodeAnswer, is_accepted}
use Rattle.decode.specs.Read.{decode, Decoding}
use Rattle.hops.specs.Station.{same_station}
use Rattle.link_record.specs.Record.{LinkAnswer, refusal}
use Rattle.link_record.specs.declared.Link.{Link}
use Rattle.link_record.specs.declared.LinkError.TheVariants.{Refused}
use Rattle.link_frame.specs.Frame.{heard_of}
use Rattle.link_frame.specs.declared.Heard.{Heard}
use Rattle.link_frame.specs.declared.Side.{Side}
use Rattle.link_frame.specs.declared.Side.TheVariants.{A, B}
use Rattle.link_frame.specs.declared.Verdict.{Verdict}
use Rattle.link_frame.specs.declared.Verdict.TheVariants.{InOrder, Repeated, Gap, Outside}
use Rattle.link.specs.declared.Stepped.{Stepped}

-- from the one station to the other, by callsign and SSID; route, marks and reserved bits play no part
abbrev pub is_from_to : Address → Address → Ax25Frame → Bool
is_from_to from to f = same_station from f.source && same_station to f.destination

-- which of the two sent a frame to the other
unfoldable pub sender_in : Link → Ax25Frame → Option Side
sender_in l f = cond (is_from_to l.a l.b f) (Some A) (cond (is_from_to l.b l.a f) (Some B) None)

-- the same of octets: what is refused is of neither
unfoldable pub sender_of : Link → List ℕ → Option Side
sender_of l s = cond (is_accepted (decode Short s).answer) (sender_in l (decode Short s).frame) None

-- a record with these counts and this number offered; all else stays
abbrev pub tallied : Link → ℕ → ℕ → ℕ → ℕ → ℕ → Link
tallied l in_order repeated gaps outside offered = record {
  a = l.a;
  b = l.b;
  state = l.state;
  expected_from_a = l.expected_from_a;
  expected_from_b = l.expected_from_b;
  moved_from_a = l.moved_from_a;
  moved_from_b = l.moved_from_b;
  in_order = in_order;
  repeated = repeated;
  gaps = gaps;
  outside = outside;
  offered = offered;
}

-- one more was offered, and the count of its verdict is one more too
abbrev pub counted_as : Option Verdict → Link → Link
counted_as None l = tallied l l.in_order l.repeated l.gaps l.outside (l.offered + 1)
counted_as (Some InOrder) l = tallied l (l.in_order + 1) l.repeated l.gaps l.outside (l.offered + 1)
counted_as (Some Repeated) l = tallied l l.in_order (l.repeated + 1) l.gaps l.outside (l.offered + 1)
counted_as (Some Gap) l = tallied l l.in_order l.repeated (l.gaps + 1) l.outside (l.offered + 1)
counted_as (Some Outside) l = tallied l l.in_order l.repeated l.gaps (l.outside + 1) (l.offered + 1)

abbrev pub after_hearing : Heard → Link
after_hearing h = counted_as h.verdict h.link

-- a frame with this content by its sender. One of others changes only the number offered
abbrev pub followed_by : Option Side → FrameContent → Link → Link
followed_by (Some from) k l = after_hearing (heard_of from k l)
followed_by None k l = counted_as None l

unfoldable pub followed : Link → Ax25Frame → Link
followed l f = followed_by (sender_in l f) f.content l

-- with what decoding gives in hand: its number, and only the number offered changes; or the frame
abbrev pub offered_by : Link → DecodeAnswer → Ax25Frame → Stepped
offered_by l (Ok u) f = record { answer = Ok tt; link = followed l f }
offered_by l (Err e) f = record { answer = Err (Refused e); link = counted_as None l }

unfoldable pub offered_to : Link → Decoding → Stepped
offered_to l d = offered_by l d.answer d.frame

-- with the record's own refusal in hand: 22, 72, 73 and 71 change nothing
abbrev pub step_by : LinkAnswer → Link → List ℕ → Stepped
step_by (Ok u) l s = offered_to l (decode Short s)
step_by (Err e) l s = record { answer = Err e; link = l }

-- the whole
unfoldable pub step_of : Link → List ℕ → Stepped
step_of l s = step_by (refusal l) l s
