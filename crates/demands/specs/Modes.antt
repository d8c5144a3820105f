-- Document 02, M-109: settled cases of the long mode, and of the kinds that both modes gained.
use Rattle.std.specs.Prelude.{ℕ, ◌≡◌, true, false, List, [], ◌∷◌, ◌++◌}
use Rattle.protocol.specs.declared.ProtocolIdentifier.TheVariants.{None}
use Rattle.content.specs.declared.FrameContent.{FrameContent}
use Rattle.content.specs.declared.FrameContent.TheVariants as kind
use Rattle.decode.specs.Answer.{number}
use Rattle.frame.specs.declared.Ax25Frame.{Ax25Frame}
use Rattle.demands.specs.Examples.{Outcome, addresses, with, refused}

-- two frames that differ in their content alone
pub record AllButContent (f g : Ax25Frame) : Type 0 where
  pub source : f.source ≡ g.source
  pub destination : f.destination ≡ g.destination
  pub route : f.route ≡ g.route
  pub count : f.route_count ≡ g.route_count
  pub mark : f.command_or_response ≡ g.command_or_response

-- document 01's address octets with this content
abbrev pub content : List ℕ → List ℕ
content c = addresses ++ c

-- what an input gives that is accepted as this kind, without info, and is canonical; its address octets with this content are the input
abbrev pub plain : FrameContent → List ℕ → Outcome
plain k c = record { report = number 0; frame = with k; info_start = 0; info_len = 0; canonical = true; again = content c }

-- the same where it is not canonical, and re-encoded so
abbrev pub tailed : FrameContent → List ℕ → Outcome
tailed k c = record { report = number 0; frame = with k; info_start = 0; info_len = 0; canonical = false; again = content c }

-- and where it is canonical, with info from there on, so many octets
abbrev pub carrying : FrameContent → ℕ → ℕ → List ℕ → Outcome
carrying k start len c = record { report = number 0; frame = with k; info_start = start; info_len = len; canonical = true; again = content c }

-- in the long mode, each with its whole result
abbrev pub long_cases : List (List ℕ × Outcome)
long_cases =
    -- I with N(S) 65, N(R) 100 and the poll bit, no layer 3, info `A`
    (content (0x82 ∷ 0xC9 ∷ 0xF0 ∷ 0x41 ∷ []), carrying (kind.Information (record { pid = None; receive_sequence = 100; send_sequence = 65; poll = true })) 17 1 (0x82 ∷ 0xC9 ∷ 0xF0 ∷ 0x41 ∷ []))
    -- I with no second control octet: 12
    ∷ (content (0x82 ∷ []), refused (number 12))
    -- I with no PID: 5
    ∷ (content (0x82 ∷ 0xC9 ∷ []), refused (number 5))
    -- RR with N(R) 127, and a tail
    ∷ (content (0x01 ∷ 0xFE ∷ 0xAA ∷ []), tailed (kind.ReceiveReady (record { receive_sequence = 127; poll_or_final = false })) (0x01 ∷ 0xFE ∷ []))
    -- SREJ with N(R) 1 and the final bit; four ignored bits set
    ∷ (content (0xFD ∷ 0x03 ∷ []), tailed (kind.SelectiveReject (record { receive_sequence = 1; poll_or_final = true })) (0x0D ∷ 0x03 ∷ []))
    -- RNR with no second control octet: 12
    ∷ (content (0x05 ∷ []), refused (number 12))
    -- FRMR, of the size that it has in the short mode, and alone: 11
    ∷ (content (0x87 ∷ 0x01 ∷ 0x02 ∷ 0x44 ∷ []), refused (number 11))
    ∷ (content (0x87 ∷ []), refused (number 11))
    -- UI with no PID: 5
    ∷ (content (0x03 ∷ []), refused (number 5))
    -- UA, whose control field is one octet
    ∷ (content (0x73 ∷ []), plain (kind.UnnumberedAcknowledge (record { final_bit = true })) (0x73 ∷ []))
    ∷ []

-- in either mode
abbrev pub both_cases : List (List ℕ × Outcome)
both_cases =
    -- SABME with the poll bit
    (content (0x7F ∷ []), plain (kind.SetAsynchronousBalancedModeExtended (record { poll = true })) (0x7F ∷ []))
    -- XID with info right after its control octet, and with none
    ∷ (content (0xAF ∷ 0x82 ∷ 0x80 ∷ []), carrying (kind.ExchangeIdentification (record { poll_or_final = false })) 15 2 (0xAF ∷ 0x82 ∷ 0x80 ∷ []))
    ∷ (content (0xBF ∷ []), carrying (kind.ExchangeIdentification (record { poll_or_final = true })) 15 0 (0xBF ∷ []))
    -- TEST likewise
    ∷ (content (0xE3 ∷ 0xF0 ∷ []), carrying (kind.Test (record { poll_or_final = false })) 15 1 (0xE3 ∷ 0xF0 ∷ []))
    -- a U control octet that no kind has: 7
    ∷ (content (0x0B ∷ []), refused (number 7))
    ∷ []
