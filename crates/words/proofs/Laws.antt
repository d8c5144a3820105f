-- How long the words are at most.
use Prim.Native.Nat.{ℕ, ◌+◌, ◌/◌, ◌%◌, ◌≤◌, ◌<◌}
use mathlib.Core.Path.{◌≡◌, refl}
use mathlib.Core.Bool.{Bool, true, false, cond}
use mathlib.Core.List.{List, [], ◌∷◌}
use native.Mathlib.Omega.{arith}
use borrow.Author.Tests.{lt-ltb}
use lib.Dec.{ltb}
use lib.ListN.{length, drop, length-drop}
use Rattle.octets.proofs.Choice.{by, either}
use Rattle.text.specs.Text.{alphanumeric}
use Rattle.content.specs.declared.FrameContent.{FrameContent}
use Rattle.content.specs.declared.FrameContent.TheVariants as kind
use Rattle.frame.specs.declared.Mark.{Mark}
use Rattle.frame.specs.declared.Mark.TheVariants.{Command, Response, Absent}
use Rattle.reason.specs.declared.Reason.{Reason}
use Rattle.reason.specs.declared.Reason.TheVariants as reason
use Rattle.words.specs.Words.{five_digits, leading, decimal, character, mark_text, kind_text, has_pid, pid_text, yes_no, reason_text}

pub decimal-short : (n : ℕ) → length (decimal n) ≤ 5
decimal-short n = omega (arith, length-drop (leading n) (five_digits n))

-- of a number that has no more, the last four digits
pub decimal_four : (n : ℕ) → n < 10000
    → decimal n ≡ drop (cond (ltb n 10) 3 (cond (ltb n 100) 2 (cond (ltb n 1000) 1 0)))
    ((48 + n / 1000 % 10) ∷ (48 + n / 100 % 10) ∷ (48 + n / 10 % 10) ∷ (48 + n % 10) ∷ [])
unfolding leading
decimal_four n h =
    by (ltb n 10)
    (λ a. rw a refl)
    (λ a. by (ltb n 100) (λ b. rw (a, b) refl) (λ b. by (ltb n 1000) (λ c. rw (a, b, c) refl) (λ c. rw (a, b, c, lt-ltb n 10000 h) refl)))

pub character-short : (c : ℕ) → length (character c) ≤ 3
unfolding character
character-short c = either (λ (t : List ℕ). length t ≤ 3) (alphanumeric c) (λ e. omega arith) (λ e. omega arith)

pub mark-short : (m : Mark) → length (mark_text m) ≤ 8
mark-short Command = omega arith
mark-short Response = omega arith
mark-short Absent = omega arith

pub kind-short : (k : FrameContent) → length (kind_text k) ≤ 5
kind-short (kind.Information k) = omega arith
kind-short (kind.ReceiveReady k) = omega arith
kind-short (kind.ReceiveNotReady k) = omega arith
kind-short (kind.Reject k) = omega arith
kind-short (kind.SelectiveReject k) = omega arith
kind-short (kind.SetAsynchronousBalancedMode k) = omega arith
kind-short (kind.SetAsynchronousBalancedModeExtended k) = omega arith
kind-short (kind.Disconnect k) = omega arith
kind-short (kind.DisconnectedMode k) = omega arith
kind-short (kind.UnnumberedAcknowledge k) = omega arith
kind-short (kind.FrameReject k) = omega arith
kind-short (kind.UnnumberedInformation k) = omega arith
kind-short (kind.ExchangeIdentification k) = omega arith
kind-short (kind.Test k) = omega arith
kind-short kind.UnknownContent = omega arith

pub pid-short : (k : FrameContent) → length (pid_text k) ≤ 2
pid-short k = either (λ (t : List ℕ). length t ≤ 2) (has_pid k) (λ e. omega arith) (λ e. omega arith)

pub reason-short : (r : Reason) → length (reason_text r) ≤ 8
reason-short reason.None = omega arith
reason-short reason.Leftover = omega arith
reason-short reason.Marks = omega arith
reason-short reason.Tail = omega arith
reason-short reason.Fixed = omega arith
reason-short reason.Refused = omega arith

pub yes_no-short : (b : Bool) → length (yes_no b) ≤ 3
yes_no-short true = omega arith
yes_no-short false = omega arith
