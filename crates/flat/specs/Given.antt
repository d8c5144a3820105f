-- The frame of a flat record, whatever its octets are. Octets past its end count as 0.
use Rattle.std.specs.Prelude.{ℕ, ◌+◌, Bool, cond, not, List, [], ◌∷◌, eqb, get_or}
use Rattle.protocol.specs.declared.ProtocolIdentifier.{ProtocolIdentifier}
use Rattle.protocol.specs.declared.ProtocolIdentifier.TheVariants.{Layer3Impl, X25Plp, CompressedTcpIp, UncompressedTcpIp, SegmentationFragment, TexnetDatagram, LinkQuality, Appletalk, AppletalkArp, ArpaIp, ArpaAddress, Flexnet, NetRom, None, Escape, Unknown}
use Rattle.address.specs.declared.Address.{Address}
use Rattle.content.specs.declared.CommandResponse.{CommandResponse}
use Rattle.content.specs.declared.CommandResponse.TheVariants as frmr
use Rattle.content.specs.declared.FrameReject.{FrameReject}
use Rattle.content.specs.declared.FrameContent.{FrameContent}
use Rattle.content.specs.declared.FrameContent.TheVariants as kind
use Rattle.frame.specs.declared.Mark.{Mark}
use Rattle.frame.specs.declared.Mark.TheVariants.{Command, Response, Absent}
use Rattle.frame.specs.declared.RouteEntry.{RouteEntry}
use Rattle.frame.specs.declared.Ax25Frame.{Ax25Frame}

-- the octet at a place
abbrev pub octet_at : List ℕ → ℕ → ℕ
octet_at s k = get_or s k 0

-- a flag: any octet but 0
abbrev pub flag_at : List ℕ → ℕ → Bool
flag_at s k = not (eqb (octet_at s k) 0)

unfoldable pub address_at : List ℕ → ℕ → Address
address_at s at = record {
  callsign = octet_at s at ∷ octet_at s (at + 1) ∷ octet_at s (at + 2) ∷ octet_at s (at + 3) ∷ octet_at s (at + 4) ∷ octet_at s (at + 5) ∷ [];
  ssid = octet_at s (at + 6);
  reserved = octet_at s (at + 7);
}

unfoldable pub entry_at : List ℕ → ℕ → RouteEntry
entry_at s at = record { repeater = address_at s at; has_repeated = flag_at s (at + 8) }

unfoldable pub route_from : List ℕ → List RouteEntry
route_from s =
    entry_at s 16 ∷ entry_at s 25 ∷ entry_at s 34 ∷ entry_at s 43 ∷ entry_at s 52 ∷ entry_at s 61 ∷ entry_at s 70 ∷ entry_at s 79 ∷ []

-- 2 and more: absent
abbrev pub marks : List Mark
marks = Command ∷ Response ∷ []

unfoldable pub mark_from : ℕ → Mark
mark_from m = get_or marks m Absent

-- 1 and more: a response
unfoldable pub response_from : ℕ → CommandResponse
response_from r = cond (eqb r 0) frmr.Command frmr.Response

-- the cases in the order of the enum, layer 3 with the octet; 15 and more: `Unknown` with it
abbrev pub pids : ℕ → List ProtocolIdentifier
pids octet =
    Layer3Impl octet ∷ X25Plp ∷ CompressedTcpIp ∷ UncompressedTcpIp ∷ SegmentationFragment ∷ TexnetDatagram ∷ LinkQuality ∷ Appletalk
    ∷ AppletalkArp ∷ ArpaIp ∷ ArpaAddress ∷ Flexnet ∷ NetRom ∷ None ∷ Escape ∷ []

unfoldable pub pid_from : ℕ → ℕ → ProtocolIdentifier
pid_from case octet = get_or (pids octet) case (Unknown octet)

-- every field that some kind has, save the PID: those of FRMR. Content starts at `at`
unfoldable pub fields_at : List ℕ → ℕ → FrameReject
fields_at s at = record {
  final_bit = flag_at s (at + 3);
  rejected_control_field_raw = octet_at s (at + 11);
  z = flag_at s (at + 6);
  y = flag_at s (at + 7);
  x = flag_at s (at + 8);
  w = flag_at s (at + 9);
  receive_sequence = octet_at s (at + 4);
  send_sequence = octet_at s (at + 5);
  command_response = response_from (octet_at s (at + 10));
}

-- the kinds in the record's order, each with the fields that it has; 14 and more: `UnknownContent`
abbrev pub kinds : ProtocolIdentifier → FrameReject → List FrameContent
kinds pid f =
    kind.Information (record {
      pid = pid;
      receive_sequence = f.receive_sequence;
      send_sequence = f.send_sequence;
      poll = f.final_bit;
    })
    ∷ kind.ReceiveReady (record { receive_sequence = f.receive_sequence; poll_or_final = f.final_bit })
    ∷ kind.ReceiveNotReady (record { receive_sequence = f.receive_sequence; poll_or_final = f.final_bit })
    ∷ kind.Reject (record { receive_sequence = f.receive_sequence; poll_or_final = f.final_bit })
    ∷ kind.SelectiveReject (record { receive_sequence = f.receive_sequence; poll_or_final = f.final_bit })
    ∷ kind.SetAsynchronousBalancedMode (record { poll = f.final_bit })
    ∷ kind.SetAsynchronousBalancedModeExtended (record { poll = f.final_bit })
    ∷ kind.Disconnect (record { poll = f.final_bit })
    ∷ kind.DisconnectedMode (record { final_bit = f.final_bit })
    ∷ kind.UnnumberedAcknowledge (record { final_bit = f.final_bit })
    ∷ kind.FrameReject f
    ∷ kind.UnnumberedInformation (record { pid = pid; poll_or_final = f.final_bit })
    ∷ kind.ExchangeIdentification (record { poll_or_final = f.final_bit })
    ∷ kind.Test (record { poll_or_final = f.final_bit })
    ∷ []

unfoldable pub content_with : ℕ → ProtocolIdentifier → FrameReject → FrameContent
content_with k pid f = get_or (kinds pid f) k kind.UnknownContent

-- the twelve octets of content, from `at` on
unfoldable pub content_at : List ℕ → ℕ → FrameContent
content_at s at = content_with (octet_at s at) (pid_from (octet_at s (at + 1)) (octet_at s (at + 2))) (fields_at s at)

unfoldable pub frame_from : List ℕ → Ax25Frame
frame_from s = record {
  source = address_at s 8;
  destination = address_at s 0;
  route = route_from s;
  route_count = octet_at s 88;
  command_or_response = mark_from (octet_at s 89);
  content = content_at s 90;
}
