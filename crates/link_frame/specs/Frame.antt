-- What one frame between the two stations does to the record of their link (document 02, M-112).
use Rattle.std.specs.Prelude.{ℕ, ◌+◌, ◌%◌, Bool, true, false, cond, not, ◌&&◌, Option, Some, None, eqb}
use Rattle.content.specs.declared.FrameContent.{FrameContent}
use Rattle.content.specs.declared.FrameContent.TheVariants as kind
use Rattle.link_record.specs.Record.{idle, asked_by_a, asked_by_b, up}
use Rattle.link_record.specs.declared.Link.{Link}
use Rattle.link_frame.specs.declared.Event.{Event}
use Rattle.link_frame.specs.declared.Event.TheVariants.{Asks, Acknowledges, Ends, Numbered}
use Rattle.link_frame.specs.declared.Side.{Side}
use Rattle.link_frame.specs.declared.Side.TheVariants.{A, B}
use Rattle.link_frame.specs.declared.Verdict.{Verdict}
use Rattle.link_frame.specs.declared.Verdict.TheVariants.{InOrder, Repeated, Gap, Outside}
use Rattle.link_frame.specs.declared.Heard.{Heard}

-- the state that a SABM from that side makes
abbrev pub asked_by : Side → ℕ
asked_by A = asked_by_a
asked_by B = asked_by_b

abbrev pub other : Side → Side
other A = B
other B = A

-- the N(S) that is expected from that side
abbrev pub expected_from : Side → Link → ℕ
expected_from A l = l.expected_from_a
expected_from B l = l.expected_from_b

-- whether a frame came in order from that side since the UA: any number but 0 says so
abbrev pub moved_from : Side → Link → Bool
moved_from A l = not (eqb l.moved_from_a 0)
moved_from B l = not (eqb l.moved_from_b 0)

-- a record with this state, these expected numbers and these memories; stations, counts and the number offered stay
abbrev pub turned : Link → ℕ → ℕ → ℕ → ℕ → ℕ → Link
turned l state ea eb ma mb = record {
  a = l.a;
  b = l.b;
  state = state;
  expected_from_a = ea;
  expected_from_b = eb;
  moved_from_a = ma;
  moved_from_b = mb;
  in_order = l.in_order;
  repeated = l.repeated;
  gaps = l.gaps;
  outside = l.outside;
  offered = l.offered;
}

-- the state alone changed: expected numbers and memories stay as they were
abbrev pub with_state : ℕ → Link → Link
with_state state l = turned l state l.expected_from_a l.expected_from_b l.moved_from_a l.moved_from_b

-- up: both directions expect 0, and nothing has come in order yet
abbrev pub raised : Link → Link
raised l = turned l up 0 0 0 0

-- UA: the link is up where the other side asked for it; any other UA changes nothing
unfoldable pub acknowledged : Side → Link → Link
acknowledged from l = cond (eqb l.state (asked_by (other from))) (raised l) l

-- that direction one on, modulo 8, and a frame came in order
abbrev pub moved_on : Side → Link → Link
moved_on A l = turned l l.state ((l.expected_from_a + 1) % 8) l.expected_from_b 1 l.moved_from_b
moved_on B l = turned l l.state l.expected_from_a ((l.expected_from_b + 1) % 8) l.moved_from_a 1

-- repeated: a frame came in order that way since the UA, and N(S) is one less than expected, modulo 8
abbrev pub is_repeated : Side → ℕ → Link → Bool
is_repeated from n l = moved_from from l && eqb ((n + 1) % 8) (expected_from from l)

-- what an I frame with this N(S) is counted as
unfoldable pub verdict_of : Side → ℕ → Link → Verdict
verdict_of from n l =
    cond (eqb l.state up)
    (cond (eqb n (expected_from from l)) InOrder
    (cond (is_repeated from n l) Repeated Gap))
    Outside

-- only a frame in order moves its direction
abbrev pub moves : Verdict → Bool
moves InOrder = true
moves Repeated = false
moves Gap = false
moves Outside = false

-- an I frame with this N(S): its verdict, and the record behind it
abbrev pub numbered : Side → ℕ → Link → Heard
numbered from n l = record { verdict = Some (verdict_of from n l); link = cond (moves (verdict_of from n l)) (moved_on from l) l }

-- a frame that is not counted, and the record behind it
abbrev pub quiet : Link → Heard
quiet l = record { verdict = None; link = l }

-- what a frame is to the link, by its kind: SABM asks for it, UA acknowledges that, DISC, DM and SABME end it, I frames are numbered, and the
-- other kinds are nothing to it
abbrev pub event_of : FrameContent → Option Event
event_of (kind.Information k) = Some (Numbered k.send_sequence)
event_of (kind.ReceiveReady k) = None
event_of (kind.ReceiveNotReady k) = None
event_of (kind.Reject k) = None
event_of (kind.SelectiveReject k) = None
event_of (kind.SetAsynchronousBalancedMode k) = Some Asks
event_of (kind.SetAsynchronousBalancedModeExtended k) = Some Ends
event_of (kind.Disconnect k) = Some Ends
event_of (kind.DisconnectedMode k) = Some Ends
event_of (kind.UnnumberedAcknowledge k) = Some Acknowledges
event_of (kind.FrameReject k) = None
event_of (kind.UnnumberedInformation k) = None
event_of (kind.ExchangeIdentification k) = None
event_of (kind.Test k) = None
event_of kind.UnknownContent = None

-- such a frame from that side. Asking and ending change the state alone, in every state
abbrev pub heard_as : Side → Option Event → Link → Heard
heard_as from None l = quiet l
heard_as from (Some Asks) l = quiet (with_state (asked_by from) l)
heard_as from (Some Acknowledges) l = quiet (acknowledged from l)
heard_as from (Some Ends) l = quiet (with_state idle l)
heard_as from (Some (Numbered n)) l = numbered from n l

-- a frame with this content from that side
unfoldable pub heard_of : Side → FrameContent → Link → Heard
heard_of from k l = heard_as from (event_of k) l
