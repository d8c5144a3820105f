-- What of content is never written, whatever the room (document 01, Writing and Numbers; document 02, M-105 and M-109).
use Rattle.std.specs.Prelude.{ℕ, Bool, true, false, not, ◌&&◌, eqb}
use Rattle.control.specs.Mode.{is_long}
use Rattle.control.specs.declared.Mode.{Mode}
use Rattle.protocol.specs.Pid.{outside_class}
use Rattle.content.specs.Spell.{has_info}
use Rattle.content.specs.declared.FrameContent.{FrameContent}
use Rattle.content.specs.declared.FrameContent.TheVariants as kind

-- FRMR, whatever its fields
abbrev pub is_frame_reject : FrameContent → Bool
is_frame_reject (kind.Information k) = false
is_frame_reject (kind.ReceiveReady k) = false
is_frame_reject (kind.ReceiveNotReady k) = false
is_frame_reject (kind.Reject k) = false
is_frame_reject (kind.SelectiveReject k) = false
is_frame_reject (kind.SetAsynchronousBalancedMode k) = false
is_frame_reject (kind.SetAsynchronousBalancedModeExtended k) = false
is_frame_reject (kind.Disconnect k) = false
is_frame_reject (kind.DisconnectedMode k) = false
is_frame_reject (kind.UnnumberedAcknowledge k) = false
is_frame_reject (kind.FrameReject k) = true
is_frame_reject (kind.UnnumberedInformation k) = false
is_frame_reject (kind.ExchangeIdentification k) = false
is_frame_reject (kind.Test k) = false
is_frame_reject kind.UnknownContent = false

-- 11: FRMR in the long mode
abbrev pub long_frmr : Mode → FrameContent → Bool
long_frmr m k = is_long m && is_frame_reject k

-- 23: info not empty for a kind that has none (docs/DIFFERENCES.md, B3)
abbrev pub stray_info : FrameContent → ℕ → Bool
stray_info k info = not (has_info k) && not (eqb info 0)

-- 25: a layer 3 identifier with an octet outside the class (docs/DIFFERENCES.md, B3)
abbrev pub stray_pid : FrameContent → Bool
stray_pid (kind.Information k) = outside_class k.pid
stray_pid (kind.ReceiveReady k) = false
stray_pid (kind.ReceiveNotReady k) = false
stray_pid (kind.Reject k) = false
stray_pid (kind.SelectiveReject k) = false
stray_pid (kind.SetAsynchronousBalancedMode k) = false
stray_pid (kind.SetAsynchronousBalancedModeExtended k) = false
stray_pid (kind.Disconnect k) = false
stray_pid (kind.DisconnectedMode k) = false
stray_pid (kind.UnnumberedAcknowledge k) = false
stray_pid (kind.FrameReject k) = false
stray_pid (kind.UnnumberedInformation k) = outside_class k.pid
stray_pid (kind.ExchangeIdentification k) = false
stray_pid (kind.Test k) = false
stray_pid kind.UnknownContent = false
