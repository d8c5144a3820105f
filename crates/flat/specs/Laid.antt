-- The flat form of an address (8 octets) and of a frame (102 octets), as the comparison reads it.
use Rattle.std.specs.Prelude.{ℕ, zero, suc, Bool, false, cond, List, [], ◌∷◌, ◌++◌, ltb, get_or}
use Rattle.octets.specs.Octet.{flag}
use Rattle.protocol.specs.declared.ProtocolIdentifier.{ProtocolIdentifier}
use Rattle.protocol.specs.declared.ProtocolIdentifier.TheVariants.{Layer3Impl, X25Plp, CompressedTcpIp, UncompressedTcpIp, SegmentationFragment, TexnetDatagram, LinkQuality, Appletalk, AppletalkArp, ArpaIp, ArpaAddress, Flexnet, NetRom, None, Escape, Unknown}
use Rattle.address.specs.declared.Address.{Address}
use Rattle.content.specs.declared.CommandResponse.{CommandResponse}
use Rattle.content.specs.declared.CommandResponse.TheVariants as frmr
use Rattle.content.specs.declared.FrameReject.{FrameReject}
use Rattle.content.specs.declared.FrameContent.{FrameContent}
use Rattle.content.specs.declared.FrameContent.TheVariants as kind
use Rattle.frame.specs.declared.Mark.{Mark}
use Rattle.frame.specs.declared.Mark.TheVariants.{Command, Response, Absent}
use Rattle.frame.specs.declared.RouteEntry.{RouteEntry}
use Rattle.frame.specs.declared.Ax25Frame.{Ax25Frame}
use Rattle.frame.specs.Spell.{repeater_at}

-- an address: the six octets of the callsign, the SSID, the reserved bits
abbrev pub address_flat : Address → List ℕ
address_flat a =
    get_or a.callsign 0 0 ∷ get_or a.callsign 1 0 ∷ get_or a.callsign 2 0 ∷ get_or a.callsign 3 0
    ∷ get_or a.callsign 4 0 ∷ get_or a.callsign 5 0 ∷ a.ssid ∷ a.reserved ∷ []

-- a route place: its address, then 1 where it is marked
abbrev pub entry_flat : RouteEntry → List ℕ
entry_flat e = address_flat e.repeater ++ (flag 0 e.has_repeated ∷ [])

-- the first n places of a route, in use or not
unfoldable pub route_flat : List RouteEntry → ℕ → List ℕ
route_flat route zero = []
route_flat route (suc n) = route_flat route n ++ entry_flat (repeater_at route n)

-- the route's count in one octet: 255 stands for all from there on, which writing refuses alike
unfoldable pub count_flat : ℕ → ℕ
count_flat n = cond (ltb n 255) n 255

abbrev pub mark_flat : Mark → ℕ
mark_flat Command = 0
mark_flat Response = 1
mark_flat Absent = 2

abbrev pub response_flat : CommandResponse → ℕ
response_flat frmr.Command = 0
response_flat frmr.Response = 1

-- a protocol identifier: its case, in the order of the enum, and the octet that layer 3 and `Unknown` carry
abbrev pub pid_case : ProtocolIdentifier → ℕ
pid_case (Layer3Impl b) = 0
pid_case X25Plp = 1
pid_case CompressedTcpIp = 2
pid_case UncompressedTcpIp = 3
pid_case SegmentationFragment = 4
pid_case TexnetDatagram = 5
pid_case LinkQuality = 6
pid_case Appletalk = 7
pid_case AppletalkArp = 8
pid_case ArpaIp = 9
pid_case ArpaAddress = 10
pid_case Flexnet = 11
pid_case NetRom = 12
pid_case None = 13
pid_case Escape = 14
pid_case (Unknown b) = 15

abbrev pub pid_octet : ProtocolIdentifier → ℕ
pid_octet (Layer3Impl b) = b
pid_octet X25Plp = 0
pid_octet CompressedTcpIp = 0
pid_octet UncompressedTcpIp = 0
pid_octet SegmentationFragment = 0
pid_octet TexnetDatagram = 0
pid_octet LinkQuality = 0
pid_octet Appletalk = 0
pid_octet AppletalkArp = 0
pid_octet ArpaIp = 0
pid_octet ArpaAddress = 0
pid_octet Flexnet = 0
pid_octet NetRom = 0
pid_octet None = 0
pid_octet Escape = 0
pid_octet (Unknown b) = b

-- content in twelve octets: kind; PID case and octet; poll or final; N(R); N(S); Z; Y; X; W; FRMR's response; the rejected control
-- octet. A field that a kind lacks is 0
abbrev pub bare_flat : ℕ → Bool → ℕ → List ℕ
bare_flat k on receive = k ∷ 0 ∷ 0 ∷ flag 0 on ∷ receive ∷ 0 ∷ 0 ∷ 0 ∷ 0 ∷ 0 ∷ 0 ∷ 0 ∷ []

abbrev pub with_pid_flat : ℕ → ProtocolIdentifier → Bool → ℕ → ℕ → List ℕ
with_pid_flat k pid on receive send = k ∷ pid_case pid ∷ pid_octet pid ∷ flag 0 on ∷ receive ∷ send ∷ 0 ∷ 0 ∷ 0 ∷ 0 ∷ 0 ∷ 0 ∷ []

abbrev pub reject_flat : FrameReject → List ℕ
reject_flat k =
    10 ∷ 0 ∷ 0 ∷ flag 0 k.final_bit ∷ k.receive_sequence ∷ k.send_sequence
    ∷ flag 0 k.z ∷ flag 0 k.y ∷ flag 0 k.x ∷ flag 0 k.w
    ∷ response_flat k.command_response ∷ k.rejected_control_field_raw ∷ []

abbrev pub content_flat : FrameContent → List ℕ
content_flat (kind.Information k) = with_pid_flat 0 k.pid k.poll k.receive_sequence k.send_sequence
content_flat (kind.ReceiveReady k) = bare_flat 1 k.poll_or_final k.receive_sequence
content_flat (kind.ReceiveNotReady k) = bare_flat 2 k.poll_or_final k.receive_sequence
content_flat (kind.Reject k) = bare_flat 3 k.poll_or_final k.receive_sequence
content_flat (kind.SelectiveReject k) = bare_flat 4 k.poll_or_final k.receive_sequence
content_flat (kind.SetAsynchronousBalancedMode k) = bare_flat 5 k.poll 0
content_flat (kind.SetAsynchronousBalancedModeExtended k) = bare_flat 6 k.poll 0
content_flat (kind.Disconnect k) = bare_flat 7 k.poll 0
content_flat (kind.DisconnectedMode k) = bare_flat 8 k.final_bit 0
content_flat (kind.UnnumberedAcknowledge k) = bare_flat 9 k.final_bit 0
content_flat (kind.FrameReject k) = reject_flat k
content_flat (kind.UnnumberedInformation k) = with_pid_flat 11 k.pid k.poll_or_final 0 0
content_flat (kind.ExchangeIdentification k) = bare_flat 12 k.poll_or_final 0
content_flat (kind.Test k) = bare_flat 13 k.poll_or_final 0
content_flat kind.UnknownContent = bare_flat 14 false 0

-- what follows the route, from octet 88 on: its count, the mark, the content
abbrev pub rest_flat : Ax25Frame → List ℕ
rest_flat f = count_flat f.route_count ∷ mark_flat f.command_or_response ∷ content_flat f.content

-- a frame: destination at 0, source at 8, the eight places from 16 on, the rest from 88 on
unfoldable pub flat_of : Ax25Frame → List ℕ
flat_of f = address_flat f.destination ++ (address_flat f.source ++ (route_flat f.route 8 ++ rest_flat f))
