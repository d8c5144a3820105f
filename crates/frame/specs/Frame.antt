-- The frame record: the default frame, and the numbers of writing, document 01's and document 02's 11 (M-109) and 25 (M-105).
use Rattle.std.specs.Prelude.{ℕ, false, Result, List, [], ◌∷◌}
use Rattle.octets.specs.Outcome.{number_by}
use Rattle.address.specs.Address.{no_call}
use Rattle.address.specs.declared.Address.{Address}
use Rattle.content.specs.declared.FrameContent.TheVariants.{UnnumberedInformation}
use Rattle.protocol.specs.declared.ProtocolIdentifier.TheVariants.{None}
use Rattle.frame.specs.declared.Mark.TheVariants.{Command}
use Rattle.frame.specs.declared.RouteEntry.{RouteEntry}
use Rattle.frame.specs.declared.Ax25Frame.{Ax25Frame}
use Rattle.encoding.specs.declared.EncodeError.{EncodeError}
use Rattle.encoding.specs.declared.EncodeError.TheVariants as encode
use Rattle.frame.specs.declared.WriteError.{WriteError}
use Rattle.frame.specs.declared.WriteError.TheVariants as write

-- an unused route place: NOCALL, SSID 0, reserved bits 3, unmarked
unfoldable pub no_entry : RouteEntry
no_entry = record { repeater = no_call; has_repeated = false }

unfoldable pub no_route : List RouteEntry
no_route = no_entry ∷ no_entry ∷ no_entry ∷ no_entry ∷ no_entry ∷ no_entry ∷ no_entry ∷ no_entry ∷ []

-- a UI frame with no layer 3, a command, no route
unfoldable pub simple_ui : Address → Address → Ax25Frame
simple_ui source destination = record {
  source = source;
  destination = destination;
  route = no_route;
  route_count = 0;
  command_or_response = Command;
  content = UnnumberedInformation (record { pid = None; poll_or_final = false });
}

-- the default frame, which a refused decode returns
unfoldable pub default_frame : Ax25Frame
default_frame = simple_ui no_call no_call

-- the numbers of writing: of a refusal, and of an answer
abbrev pub error_number : WriteError → ℕ
error_number write.RouteTooLong = 21
error_number write.NotEncodable = 22
error_number write.FrameRejectInLongMode = 11
error_number write.InfoNotAllowed = 23
error_number write.PidOutsideClass = 25
error_number write.NoRoom = 24

abbrev pub write_number : {T : Type 0} → Result T WriteError → ℕ
write_number a = number_by error_number a

-- what the content's refusal is to the frame
abbrev pub error_of : EncodeError → WriteError
error_of encode.FrameRejectInLongMode = write.FrameRejectInLongMode
error_of encode.InfoNotAllowed = write.InfoNotAllowed
error_of encode.PidOutsideClass = write.PidOutsideClass
error_of encode.NoRoom = write.NoRoom
