-- Writing content: the octets that each kind spells, and which content is plain (document 01, Writing and Plain frames).
use Rattle.std.specs.Prelude.{ℕ, ◌<◌, ◌≡◌, Bool, true, false, List, [], ◌∷◌, ◌++◌}
use Rattle.protocol.specs.Pid.{octet_of, plain_pid}
use Rattle.control.specs.Mode.{limit}
use Rattle.control.specs.Control.{rr, rnr, rej, srej, sabm, sabme, disc, dm, ua, frmr, ui, xid, test}
use Rattle.control.specs.Spell.{numbered, sent, sequenced, unnumbered, flags}
use Rattle.control.specs.declared.Mode.{Mode}
use Rattle.control.specs.declared.Mode.TheVariants.{Short, Long}
use Rattle.content.specs.declared.CommandResponse.{CommandResponse}
use Rattle.content.specs.declared.CommandResponse.TheVariants.{Command, Response}
use Rattle.content.specs.declared.FrameContent.{FrameContent}
use Rattle.content.specs.declared.FrameContent.TheVariants as kind

abbrev pub is_response : CommandResponse → Bool
is_response Command = false
is_response Response = true

-- the octets before the info: the control field, then the PID of I and UI, or FRMR's three octets, their numbers modulo 8, their unnamed
-- bits zero (docs/DIFFERENCES.md, A10) and in the order of reading; of `UnknownContent` none
abbrev pub front : Mode → FrameContent → List ℕ
front m (kind.Information k) = sequenced m k.receive_sequence k.poll (sent m k.send_sequence) ++ (octet_of k.pid ∷ [])
front m (kind.ReceiveReady k) = sequenced m k.receive_sequence k.poll_or_final rr
front m (kind.ReceiveNotReady k) = sequenced m k.receive_sequence k.poll_or_final rnr
front m (kind.Reject k) = sequenced m k.receive_sequence k.poll_or_final rej
front m (kind.SelectiveReject k) = sequenced m k.receive_sequence k.poll_or_final srej
front m (kind.SetAsynchronousBalancedMode k) = unnumbered sabm k.poll ∷ []
front m (kind.SetAsynchronousBalancedModeExtended k) = unnumbered sabme k.poll ∷ []
front m (kind.Disconnect k) = unnumbered disc k.poll ∷ []
front m (kind.DisconnectedMode k) = unnumbered dm k.final_bit ∷ []
front m (kind.UnnumberedAcknowledge k) = unnumbered ua k.final_bit ∷ []
front m (kind.FrameReject k) =
    unnumbered frmr k.final_bit
    ∷ flags k.z k.y k.x k.w
    ∷ numbered k.receive_sequence (is_response k.command_response) (sent Short k.send_sequence)
    ∷ k.rejected_control_field_raw
    ∷ []
front m (kind.UnnumberedInformation k) = unnumbered ui k.poll_or_final ∷ octet_of k.pid ∷ []
front m (kind.ExchangeIdentification k) = unnumbered xid k.poll_or_final ∷ []
front m (kind.Test k) = unnumbered test k.poll_or_final ∷ []
front m kind.UnknownContent = []

-- the kinds that have info: I, UI, XID, TEST and `UnknownContent`
abbrev pub has_info : FrameContent → Bool
has_info (kind.Information k) = true
has_info (kind.ReceiveReady k) = false
has_info (kind.ReceiveNotReady k) = false
has_info (kind.Reject k) = false
has_info (kind.SelectiveReject k) = false
has_info (kind.SetAsynchronousBalancedMode k) = false
has_info (kind.SetAsynchronousBalancedModeExtended k) = false
has_info (kind.Disconnect k) = false
has_info (kind.DisconnectedMode k) = false
has_info (kind.UnnumberedAcknowledge k) = false
has_info (kind.FrameReject k) = false
has_info (kind.UnnumberedInformation k) = true
has_info (kind.ExchangeIdentification k) = true
has_info (kind.Test k) = true
has_info kind.UnknownContent = true

-- all octets of content with this info; of `UnknownContent` the info alone
abbrev pub spell_content : Mode → FrameContent → List ℕ → List ℕ
spell_content m k info = front m k ++ info

-- plain: sequence numbers below the mode's limit, and FRMR's below 8, a plain protocol identifier, not `UnknownContent`; FRMR in the short
-- mode alone, since writing refuses it in the long one
abbrev pub PlainContent : Mode → FrameContent → Type 0
PlainContent m (kind.Information k) =
    (k.receive_sequence < limit m) × (k.send_sequence < limit m) × (plain_pid k.pid ≡ true)
PlainContent m (kind.ReceiveReady k) = k.receive_sequence < limit m
PlainContent m (kind.ReceiveNotReady k) = k.receive_sequence < limit m
PlainContent m (kind.Reject k) = k.receive_sequence < limit m
PlainContent m (kind.SelectiveReject k) = k.receive_sequence < limit m
PlainContent m (kind.SetAsynchronousBalancedMode k) = Unit {0}
PlainContent m (kind.SetAsynchronousBalancedModeExtended k) = Unit {0}
PlainContent m (kind.Disconnect k) = Unit {0}
PlainContent m (kind.DisconnectedMode k) = Unit {0}
PlainContent m (kind.UnnumberedAcknowledge k) = Unit {0}
PlainContent Short (kind.FrameReject k) =
    (k.receive_sequence < 8) × (k.send_sequence < 8) × (k.rejected_control_field_raw < 256)
PlainContent Long (kind.FrameReject k) = ⊥
PlainContent m (kind.UnnumberedInformation k) = plain_pid k.pid ≡ true
PlainContent m (kind.ExchangeIdentification k) = Unit {0}
PlainContent m (kind.Test k) = Unit {0}
PlainContent m kind.UnknownContent = ⊥
