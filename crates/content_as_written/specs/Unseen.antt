-- The bits of content that reading does not look at (document 02, M-107).
use Rattle.std.specs.Prelude.{ℕ, Bool, true, false, ◌&&◌, ◌||◌, eqb, leb}
use Rattle.control.specs.Mode.{is_long}
use Rattle.control.specs.declared.Mode.{Mode}
use Rattle.control.specs.declared.Mode.TheVariants.{Short, Long}
use Rattle.content.specs.declared.FrameContent.{FrameContent}
use Rattle.content.specs.declared.FrameContent.TheVariants as kind

-- bit j of octet i, the control octet being octet 0 and bit 0 the low bit: in an S control of the long mode the high four bits of the first
-- octet (M-109)
abbrev pub unseen_s : Mode → ℕ → ℕ → Bool
unseen_s Short i j = false
unseen_s Long i j = eqb i 0 && leb 4 j

-- in FRMR, whose info follows the control octet, the high four bits of the first info octet and the low bit of the second
-- (docs/DIFFERENCES.md, A10); in a kind that is neither S nor FRMR none
unfoldable pub unseen : Mode → FrameContent → ℕ → ℕ → Bool
unseen m (kind.Information k) i j = false
unseen m (kind.ReceiveReady k) i j = unseen_s m i j
unseen m (kind.ReceiveNotReady k) i j = unseen_s m i j
unseen m (kind.Reject k) i j = unseen_s m i j
unseen m (kind.SelectiveReject k) i j = unseen_s m i j
unseen m (kind.SetAsynchronousBalancedMode k) i j = false
unseen m (kind.SetAsynchronousBalancedModeExtended k) i j = false
unseen m (kind.Disconnect k) i j = false
unseen m (kind.DisconnectedMode k) i j = false
unseen m (kind.UnnumberedAcknowledge k) i j = false
unseen m (kind.FrameReject k) i j = (eqb i 1 && leb 4 j) || (eqb i 2 && eqb j 0)
unseen m (kind.UnnumberedInformation k) i j = false
unseen m (kind.ExchangeIdentification k) i j = false
unseen m (kind.Test k) i j = false
unseen m kind.UnknownContent i j = false

-- the kinds that have such bits
abbrev pub has_unseen : Mode → FrameContent → Bool
has_unseen m (kind.Information k) = false
has_unseen m (kind.ReceiveReady k) = is_long m
has_unseen m (kind.ReceiveNotReady k) = is_long m
has_unseen m (kind.Reject k) = is_long m
has_unseen m (kind.SelectiveReject k) = is_long m
has_unseen m (kind.SetAsynchronousBalancedMode k) = false
has_unseen m (kind.SetAsynchronousBalancedModeExtended k) = false
has_unseen m (kind.Disconnect k) = false
has_unseen m (kind.DisconnectedMode k) = false
has_unseen m (kind.UnnumberedAcknowledge k) = false
has_unseen m (kind.FrameReject k) = true
has_unseen m (kind.UnnumberedInformation k) = false
has_unseen m (kind.ExchangeIdentification k) = false
has_unseen m (kind.Test k) = false
has_unseen m kind.UnknownContent = false
