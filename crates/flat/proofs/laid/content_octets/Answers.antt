-- Each kind by one of the three shapes.
use mathlib.Core.Path.{refl, ◌∙◌}
use Rattle.flat.proofs.laid.content_octets.Goals as goal

pub returns-in-Information : goal.returns-in-Information
returns-in-Information c = c.with_pid.ensures ∙ rw c.in-Information.is refl

pub returns-in-ReceiveReady : goal.returns-in-ReceiveReady
returns-in-ReceiveReady c = c.bare.ensures ∙ rw c.in-ReceiveReady.is refl

pub returns-in-ReceiveNotReady : goal.returns-in-ReceiveNotReady
returns-in-ReceiveNotReady c = c.bare-in-ReceiveNotReady.ensures ∙ rw c.in-ReceiveNotReady.is refl

pub returns-in-Reject : goal.returns-in-Reject
returns-in-Reject c = c.bare-in-Reject.ensures ∙ rw c.in-Reject.is refl

pub returns-in-SelectiveReject : goal.returns-in-SelectiveReject
returns-in-SelectiveReject c = c.bare-in-SelectiveReject.ensures ∙ rw c.in-SelectiveReject.is refl

pub returns-in-SetAsynchronousBalancedMode : goal.returns-in-SetAsynchronousBalancedMode
returns-in-SetAsynchronousBalancedMode c = c.bare-in-SetAsynchronousBalancedMode.ensures ∙ rw c.in-SetAsynchronousBalancedMode.is refl

pub returns-in-SetAsynchronousBalancedModeExtended : goal.returns-in-SetAsynchronousBalancedModeExtended
returns-in-SetAsynchronousBalancedModeExtended c = c.bare-in-SetAsynchronousBalancedModeExtended.ensures ∙ rw c.in-SetAsynchronousBalancedModeExtended.is refl

pub returns-in-Disconnect : goal.returns-in-Disconnect
returns-in-Disconnect c = c.bare-in-Disconnect.ensures ∙ rw c.in-Disconnect.is refl

pub returns-in-DisconnectedMode : goal.returns-in-DisconnectedMode
returns-in-DisconnectedMode c = c.bare-in-DisconnectedMode.ensures ∙ rw c.in-DisconnectedMode.is refl

pub returns-in-UnnumberedAcknowledge : goal.returns-in-UnnumberedAcknowledge
returns-in-UnnumberedAcknowledge c = c.bare-in-UnnumberedAcknowledge.ensures ∙ rw c.in-UnnumberedAcknowledge.is refl

pub returns-in-FrameReject : goal.returns-in-FrameReject
returns-in-FrameReject c = c.reject.ensures ∙ rw c.in-FrameReject.is refl

pub returns-in-UnnumberedInformation : goal.returns-in-UnnumberedInformation
returns-in-UnnumberedInformation c = c.with_pid-in-UnnumberedInformation.ensures ∙ rw c.in-UnnumberedInformation.is refl

pub returns-in-ExchangeIdentification : goal.returns-in-ExchangeIdentification
returns-in-ExchangeIdentification c = c.bare-in-ExchangeIdentification.ensures ∙ rw c.in-ExchangeIdentification.is refl

pub returns-in-Test : goal.returns-in-Test
returns-in-Test c = c.bare-in-Test.ensures ∙ rw c.in-Test.is refl

pub returns-in-UnknownContent : goal.returns-in-UnknownContent
returns-in-UnknownContent c = c.bare-in-UnknownContent.ensures ∙ rw c.in-UnknownContent.is refl
