-- The words of the dumper's lines (document 01, Loader calls and dumper): hex, an address character, mark, kind, control and PID in the short
-- mode, yes and no, reasons; decimal, and a line.
use Rattle.std.specs.Prelude.{ℕ, ◌+◌, ◌/◌, ◌%◌, Bool, true, false, cond, List, [], ◌∷◌, ◌++◌, ltb, get_or, drop}
use Prim.Native.String.{String}
use Rattle.text.specs.Text.{alphanumeric}
use Rattle.content.specs.Spell.{front}
use Rattle.control.specs.declared.Mode.TheVariants.{Short}
use Rattle.content.specs.declared.FrameContent.{FrameContent}
use Rattle.content.specs.declared.FrameContent.TheVariants as kind
use Rattle.frame.specs.declared.Mark.{Mark}
use Rattle.frame.specs.declared.Mark.TheVariants.{Command, Response, Absent}
use Rattle.reason.specs.declared.Reason.{Reason}
use Rattle.reason.specs.declared.Reason.TheVariants as reason
use Rattle.words.specs.Ascii.{ascii}

-- a lower-case hex digit: 0 to 9, then a to f
unfoldable pub hex_digit : ℕ → ℕ
hex_digit d = cond (ltb d 10) (48 + d) (87 + d)

-- an octet as two of them
abbrev pub hex : ℕ → List ℕ
hex b = hex_digit (b / 16) ∷ hex_digit (b % 16) ∷ []

-- the last five decimal digits: nothing that is printed takes more
abbrev pub five_digits : ℕ → List ℕ
five_digits n = (48 + n / 10000 % 10) ∷ (48 + n / 1000 % 10) ∷ (48 + n / 100 % 10) ∷ (48 + n / 10 % 10) ∷ (48 + n % 10) ∷ []

-- how many of them are leading zeros; a lone 0 is none
unfoldable pub leading : ℕ → ℕ
leading n = cond (ltb n 10) 4 (cond (ltb n 100) 3 (cond (ltb n 1000) 2 (cond (ltb n 10000) 1 0)))

-- a number in decimal
abbrev pub decimal : ℕ → List ℕ
decimal n = drop (leading n) (five_digits n)

-- an address character: a letter or digit as itself, any other as % and two hex digits
unfoldable pub character : ℕ → List ℕ
character c = cond (alphanumeric c) (c ∷ []) (37 ∷ hex c)

abbrev pub mark_text : Mark → List ℕ
mark_text Command = ascii "command"
mark_text Response = ascii "response"
mark_text Absent = ascii "none"

-- the kinds; reading never gives `UnknownContent`
abbrev pub kind_text : FrameContent → List ℕ
kind_text (kind.Information k) = ascii "I"
kind_text (kind.ReceiveReady k) = ascii "RR"
kind_text (kind.ReceiveNotReady k) = ascii "RNR"
kind_text (kind.Reject k) = ascii "REJ"
kind_text (kind.SelectiveReject k) = ascii "SREJ"
kind_text (kind.SetAsynchronousBalancedMode k) = ascii "SABM"
kind_text (kind.SetAsynchronousBalancedModeExtended k) = ascii "SABME"
kind_text (kind.Disconnect k) = ascii "DISC"
kind_text (kind.DisconnectedMode k) = ascii "DM"
kind_text (kind.UnnumberedAcknowledge k) = ascii "UA"
kind_text (kind.FrameReject k) = ascii "FRMR"
kind_text (kind.UnnumberedInformation k) = ascii "UI"
kind_text (kind.ExchangeIdentification k) = ascii "XID"
kind_text (kind.Test k) = ascii "TEST"
kind_text kind.UnknownContent = ascii "-"

-- the kinds that have a PID: I and UI
abbrev pub has_pid : FrameContent → Bool
has_pid (kind.Information k) = true
has_pid (kind.ReceiveReady k) = false
has_pid (kind.ReceiveNotReady k) = false
has_pid (kind.Reject k) = false
has_pid (kind.SelectiveReject k) = false
has_pid (kind.SetAsynchronousBalancedMode k) = false
has_pid (kind.SetAsynchronousBalancedModeExtended k) = false
has_pid (kind.Disconnect k) = false
has_pid (kind.DisconnectedMode k) = false
has_pid (kind.UnnumberedAcknowledge k) = false
has_pid (kind.FrameReject k) = false
has_pid (kind.UnnumberedInformation k) = true
has_pid (kind.ExchangeIdentification k) = false
has_pid (kind.Test k) = false
has_pid kind.UnknownContent = false

-- control and PID as re-encoded: the first two octets of what the content spells
abbrev pub control_text : FrameContent → List ℕ
control_text k = hex (get_or (front Short k) 0 0)

abbrev pub pid_text : FrameContent → List ℕ
pid_text k = cond (has_pid k) (hex (get_or (front Short k) 1 0)) (ascii "-")

abbrev pub yes_no : Bool → List ℕ
yes_no b = cond b (ascii "yes") (ascii "no")

-- why it is not canonical (document 02, M-110); of a refused input nothing is printed
abbrev pub reason_text : Reason → List ℕ
reason_text reason.None = ascii "none"
reason_text reason.Leftover = ascii "leftover"
reason_text reason.Marks = ascii "marks"
reason_text reason.Tail = ascii "tail"
reason_text reason.Fixed = ascii "fixed"
reason_text reason.Refused = ascii "-"

-- a key, its value and a line feed
abbrev pub line : String → List ℕ → List ℕ
line key value = ascii key ++ (value ++ ascii "\n")
