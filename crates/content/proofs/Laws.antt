-- What is plain is never refused, and how long what stands before the info is.
use Prim.Native.Nat.{ℕ, ◌≤◌}
use mathlib.Core.Path.{◌≡◌, refl}
use mathlib.Core.Bool.{true, false, false≢true}
use native.Mathlib.Omega.{arith}
use lib.ListN.{length}
use Rattle.control.specs.declared.Mode.{Mode}
use Rattle.control.specs.declared.Mode.TheVariants.{Short, Long}
use Rattle.protocol.proofs.Laws.{plain_inside}
use Rattle.content.specs.Spell.{front, PlainContent}
use Rattle.content.specs.Refused.{long_frmr, stray_info, stray_pid}
use Rattle.content.specs.declared.FrameContent.{FrameContent}
use Rattle.content.specs.declared.FrameContent.TheVariants as kind

-- plain content has no stray identifier
pub plain_pid_lem : (m : Mode) (k : FrameContent) → PlainContent m k → stray_pid k ≡ false
plain_pid_lem m (kind.Information k) h = plain_inside k.pid h.2
plain_pid_lem m (kind.ReceiveReady k) h = refl
plain_pid_lem m (kind.ReceiveNotReady k) h = refl
plain_pid_lem m (kind.Reject k) h = refl
plain_pid_lem m (kind.SelectiveReject k) h = refl
plain_pid_lem m (kind.SetAsynchronousBalancedMode k) h = refl
plain_pid_lem m (kind.SetAsynchronousBalancedModeExtended k) h = refl
plain_pid_lem m (kind.Disconnect k) h = refl
plain_pid_lem m (kind.DisconnectedMode k) h = refl
plain_pid_lem m (kind.UnnumberedAcknowledge k) h = refl
plain_pid_lem Short (kind.FrameReject k) h = refl
plain_pid_lem Long (kind.FrameReject k) h = absurd h
plain_pid_lem m (kind.UnnumberedInformation k) h = plain_inside k.pid h
plain_pid_lem m (kind.ExchangeIdentification k) h = refl
plain_pid_lem m (kind.Test k) h = refl
plain_pid_lem m kind.UnknownContent h = refl

-- and is no FRMR in the long mode
pub plain-frmr : (m : Mode) (k : FrameContent) → PlainContent m k → long_frmr m k ≡ false
plain-frmr Short k h = refl
plain-frmr Long (kind.Information k) h = refl
plain-frmr Long (kind.ReceiveReady k) h = refl
plain-frmr Long (kind.ReceiveNotReady k) h = refl
plain-frmr Long (kind.Reject k) h = refl
plain-frmr Long (kind.SelectiveReject k) h = refl
plain-frmr Long (kind.SetAsynchronousBalancedMode k) h = refl
plain-frmr Long (kind.SetAsynchronousBalancedModeExtended k) h = refl
plain-frmr Long (kind.Disconnect k) h = refl
plain-frmr Long (kind.DisconnectedMode k) h = refl
plain-frmr Long (kind.UnnumberedAcknowledge k) h = refl
plain-frmr Long (kind.FrameReject k) h = absurd h
plain-frmr Long (kind.UnnumberedInformation k) h = refl
plain-frmr Long (kind.ExchangeIdentification k) h = refl
plain-frmr Long (kind.Test k) h = refl
plain-frmr Long kind.UnknownContent h = refl

-- 23 and 25 never meet: a kind that may have a stray identifier has info
pub stray_one : (k : FrameContent) (n : ℕ) → stray_info k n ≡ true → stray_pid k ≡ false
stray_one (kind.Information k) n e = absurd (false≢true e)
stray_one (kind.ReceiveReady k) n e = refl
stray_one (kind.ReceiveNotReady k) n e = refl
stray_one (kind.Reject k) n e = refl
stray_one (kind.SelectiveReject k) n e = refl
stray_one (kind.SetAsynchronousBalancedMode k) n e = refl
stray_one (kind.SetAsynchronousBalancedModeExtended k) n e = refl
stray_one (kind.Disconnect k) n e = refl
stray_one (kind.DisconnectedMode k) n e = refl
stray_one (kind.UnnumberedAcknowledge k) n e = refl
stray_one (kind.FrameReject k) n e = refl
stray_one (kind.UnnumberedInformation k) n e = absurd (false≢true e)
stray_one (kind.ExchangeIdentification k) n e = absurd (false≢true e)
stray_one (kind.Test k) n e = absurd (false≢true e)
stray_one kind.UnknownContent n e = refl

-- at most four octets stand before the info
pub front-short : (m : Mode) (k : FrameContent) → length (front m k) ≤ 4
front-short Short (kind.Information k) = omega arith
front-short Long (kind.Information k) = omega arith
front-short Short (kind.ReceiveReady k) = omega arith
front-short Long (kind.ReceiveReady k) = omega arith
front-short Short (kind.ReceiveNotReady k) = omega arith
front-short Long (kind.ReceiveNotReady k) = omega arith
front-short Short (kind.Reject k) = omega arith
front-short Long (kind.Reject k) = omega arith
front-short Short (kind.SelectiveReject k) = omega arith
front-short Long (kind.SelectiveReject k) = omega arith
front-short m (kind.SetAsynchronousBalancedMode k) = omega arith
front-short m (kind.SetAsynchronousBalancedModeExtended k) = omega arith
front-short m (kind.Disconnect k) = omega arith
front-short m (kind.DisconnectedMode k) = omega arith
front-short m (kind.UnnumberedAcknowledge k) = omega arith
front-short m (kind.FrameReject k) = omega arith
front-short m (kind.UnnumberedInformation k) = omega arith
front-short m (kind.ExchangeIdentification k) = omega arith
front-short m (kind.Test k) = omega arith
front-short m kind.UnknownContent = omega arith
