-- Document 01's examples P1 to P13, in the short mode, each with its whole result; those of P6, P8, P9 and P13 are document 02's (M-108,
-- M-109, M-105).
use Rattle.std.specs.Prelude.{ℕ, Bool, true, false, List, [], ◌∷◌, ◌++◌, take}
use Rattle.protocol.specs.declared.ProtocolIdentifier.{ProtocolIdentifier}
use Rattle.protocol.specs.declared.ProtocolIdentifier.TheVariants.{None, Layer3Impl}
use Rattle.content.specs.declared.CommandResponse.TheVariants as fault
use Rattle.control.specs.declared.Mode.{Mode}
use Rattle.content.specs.declared.FrameContent.{FrameContent}
use Rattle.content.specs.declared.FrameContent.TheVariants.{UnnumberedInformation, ReceiveReady, SelectiveReject, SetAsynchronousBalancedModeExtended, FrameReject}
use Rattle.decode.specs.Answer.{Report, number, report_of}
use Rattle.frame.specs.Frame.{no_route, default_frame}
use Rattle.decode.specs.Read.{decode}
use Rattle.frame.specs.declared.Mark.TheVariants.{Command}
use Rattle.frame.specs.declared.Ax25Frame.{Ax25Frame}
use Rattle.spelling.specs.Canonical.{canonical}
use Rattle.respelling.specs.Reencode.{due}

-- all that an input gives in a mode: number and details, frame, info's place, whether it is canonical, the octets it is re-encoded as
pub record Outcome : Type 0 where
  pub report : Report
  pub frame : Ax25Frame
  pub info_start : ℕ
  pub info_len : ℕ
  pub canonical : Bool
  pub again : List ℕ

abbrev pub outcome : Mode → List ℕ → Outcome
outcome m s = record {
  report = report_of (decode m s).answer;
  frame = (decode m s).frame;
  info_start = (decode m s).info_start;
  info_len = (decode m s).info_len;
  canonical = canonical m s;
  again = due m s;
}

-- the 14 address octets of document 01's frame: to GAUGE, from BOX12-3
abbrev pub addresses : List ℕ
addresses = 0x8E ∷ 0x82 ∷ 0xAA ∷ 0x8E ∷ 0x8A ∷ 0x40 ∷ 0xE0 ∷ 0x84 ∷ 0x9E ∷ 0xB0 ∷ 0x62 ∷ 0x64 ∷ 0x40 ∷ 0x67 ∷ []

abbrev pub whole : List ℕ
whole = addresses ++ (0x03 ∷ 0xF0 ∷ 0x4F ∷ 0x4B ∷ [])

-- its frame, with this content
abbrev pub with : FrameContent → Ax25Frame
with k = record {
  source = record { callsign = 66 ∷ 79 ∷ 88 ∷ 49 ∷ 50 ∷ 32 ∷ []; ssid = 3; reserved = 3 };
  destination = record { callsign = 71 ∷ 65 ∷ 85 ∷ 71 ∷ 69 ∷ 32 ∷ []; ssid = 0; reserved = 3 };
  route = no_route;
  route_count = 0;
  command_or_response = Command;
  content = k;
}

abbrev pub ui : ProtocolIdentifier → FrameContent
ui p = UnnumberedInformation (record { pid = p; poll_or_final = false })

abbrev pub refused : Report → Outcome
refused r = record { report = r; frame = default_frame; info_start = 0; info_len = 0; canonical = false; again = [] }

abbrev pub inputs : List (List ℕ)
inputs =
    -- P1: nothing
    []
    -- P2
    ∷ (0x8E ∷ 0x82 ∷ [])
    -- P3: the first 12 octets, then 41
    ∷ (take 12 addresses ++ (0x41 ∷ []))
    -- P4: the 14 address octets
    ∷ addresses
    -- P5: the frame
    ∷ whole
    -- P6: with one null before it
    ∷ (0 ∷ whole)
    -- P7 to P13: the address octets with this content
    ∷ (addresses ++ (0x03 ∷ []))
    ∷ (addresses ++ (0x0D ∷ []))
    ∷ (addresses ++ (0x6F ∷ []))
    ∷ (addresses ++ (0x87 ∷ 0x01 ∷ 0x02 ∷ []))
    ∷ (addresses ++ (0x87 ∷ 0xF1 ∷ 0x03 ∷ 0x44 ∷ []))
    ∷ (addresses ++ (0x01 ∷ 0xAA ∷ []))
    ∷ (addresses ++ (0x03 ∷ 0x20 ∷ []))
    ∷ []

abbrev pub outcomes : List Outcome
outcomes =
    refused (number 1)
    ∷ refused (number 2)
    ∷ refused (record { number = 3; start = 0; end = 12; len = 0 })
    ∷ refused (record { number = 4; start = 0; end = 0; len = 14 })
    ∷ record { report = number 0; frame = with (ui None); info_start = 16; info_len = 2; canonical = true; again = whole }
    ∷ refused (number 10)
    ∷ refused (number 5)
    ∷ record {
      report = number 0;
      frame = with (SelectiveReject (record { receive_sequence = 0; poll_or_final = false }));
      info_start = 0;
      info_len = 0;
      canonical = true;
      again = addresses ++ (0x0D ∷ []);
    }
    ∷ record {
      report = number 0;
      frame = with (SetAsynchronousBalancedModeExtended (record { poll = false }));
      info_start = 0;
      info_len = 0;
      canonical = true;
      again = addresses ++ (0x6F ∷ []);
    }
    ∷ refused (number 8)
    ∷ record {
      report = number 0;
      frame = with (FrameReject (record {
        final_bit = false;
        rejected_control_field_raw = 0x44;
        z = false;
        y = false;
        x = false;
        w = true;
        receive_sequence = 0;
        send_sequence = 1;
        command_response = fault.Command;
      }));
      info_start = 0;
      info_len = 0;
      canonical = false;
      again = addresses ++ (0x87 ∷ 0x01 ∷ 0x02 ∷ 0x44 ∷ []);
    }
    ∷ record {
      report = number 0;
      frame = with (ReceiveReady (record { receive_sequence = 0; poll_or_final = false }));
      info_start = 0;
      info_len = 0;
      canonical = false;
      again = addresses ++ (0x01 ∷ []);
    }
    ∷ record {
      report = number 0;
      frame = with (ui (Layer3Impl 0x20));
      info_start = 16;
      info_len = 0;
      canonical = true;
      again = addresses ++ (0x03 ∷ 0x20 ∷ []);
    }
    ∷ []
