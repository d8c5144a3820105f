-- When a part is inside, by tests that form no sum; what is filled, field by field and record by record.
use Prim.Native.Nat.{ℕ, zero, suc, ◌+◌, ◌-◌, ◌≤◌, ◌<◌}
use mathlib.Core.Path.{◌≡◌, refl, sym, ◌∙◌}
use mathlib.Core.Bool.{true, false, cond}
use mathlib.Core.List.{List, [], ◌∷◌}
use native.Mathlib.Omega.{arith}
use borrow.Author.Tests.{leb-true, leb-false, le-leb, lt-leb}
use lib.Dec.{leb}
use lib.ListN.{length, length-map, get_or}
use Rattle.octets.proofs.Choice.{by}
use Rattle.control.specs.declared.Mode.{Mode}
use Rattle.content.specs.declared.FrameContent.{FrameContent}
use Rattle.content.specs.declared.FrameContent.TheVariants as kind
use Rattle.frame.specs.Frame.{default_frame}
use Rattle.decode.specs.Answer.{number_of}
use Rattle.decode.specs.Read.{decode}
use Rattle.grammar.proofs.Refused.{decoded_known, default_known}
use Rattle.spelling.specs.Canonical.{canonical}
use Rattle.captures.specs.Capture.{kind_of, answered, outside, is_inside, part_of, filled, filled_all}
use Rattle.captures.specs.declared.CaptureRecord.{CaptureRecord}

pub inside_from : (len : ℕ) (r : CaptureRecord) → r.start ≤ len → leb r.length (len - r.start) ≡ is_inside len r
unfolding is_inside
inside_from len r h =
    by (leb r.length (len - r.start))
    (λ e. e ∙ sym (le-leb (r.start + r.length) len (omega (arith, h, leb-true r.length (len - r.start) e))))
    (λ e. e ∙ sym (lt-leb (r.start + r.length) len (omega (arith, h, leb-false r.length (len - r.start) e))))

pub starts_beyond : (len : ℕ) (r : CaptureRecord) → len < r.start → is_inside len r ≡ false
unfolding is_inside
starts_beyond len r h = lt-leb (r.start + r.length) len (omega (arith, h))

pub inside-ends : (len : ℕ) (r : CaptureRecord) → is_inside len r ≡ true → r.start + r.length ≤ len
unfolding is_inside
inside-ends len r e = leb-true (r.start + r.length) len e

-- only `UnknownContent` has no number of the header's
named : (k : FrameContent) → (k ≡ kind.UnknownContent → ⊥) → kind_of k < 14
named (kind.Information k) n = omega arith
named (kind.ReceiveReady k) n = omega arith
named (kind.ReceiveNotReady k) n = omega arith
named (kind.Reject k) n = omega arith
named (kind.SelectiveReject k) n = omega arith
named (kind.SetAsynchronousBalancedMode k) n = omega arith
named (kind.SetAsynchronousBalancedModeExtended k) n = omega arith
named (kind.Disconnect k) n = omega arith
named (kind.DisconnectedMode k) n = omega arith
named (kind.UnnumberedAcknowledge k) n = omega arith
named (kind.FrameReject k) n = omega arith
named (kind.UnnumberedInformation k) n = omega arith
named (kind.ExchangeIdentification k) n = omega arith
named (kind.Test k) n = omega arith
named kind.UnknownContent n = absurd (n refl)

module _ (m : Mode) (s : List ℕ) (r : CaptureRecord) where
  pub filled_place : ((filled m s r).start ≡ r.start) × ((filled m s r).length ≡ r.length)
  unfolding filled answered outside
  filled_place = by (is_inside (length s) r) (λ e. rw e (refl, refl)) (λ e. rw e (refl, refl))

  pub filled_inside : r.start + r.length ≤ length s
      → ((filled m s r).number ≡ number_of (decode m (part_of s r)).answer)
      × ((filled m s r).canonical ≡ cond (canonical m (part_of s r)) 1 0)
      × ((filled m s r).kind ≡ kind_of (decode m (part_of s r)).frame.content)
  unfolding filled answered is_inside
  filled_inside h = rw (le-leb (r.start + r.length) (length s) h) (refl, refl, refl)

  pub filled-outside : length s < r.start + r.length
      → ((filled m s r).number ≡ 61) × ((filled m s r).canonical ≡ 0) × ((filled m s r).kind ≡ kind_of default_frame.content)
  unfolding filled outside is_inside
  filled-outside h = rw (lt-leb (r.start + r.length) (length s) h) (refl, refl, refl)

  pub filled-named : (filled m s r).kind < 14
  unfolding filled answered outside
  filled-named =
      by (is_inside (length s) r)
      (λ e. rw e (named (decode m (part_of s r)).frame.content (decoded_known m (part_of s r))))
      (λ e. rw e (named default_frame.content default_known))

-- as many records as before, each filled by itself
module _ (m : Mode) (s : List ℕ) where
  pub filled-length : (rs : List CaptureRecord) → length (filled_all m s rs) ≡ length rs
  unfolding filled_all
  filled-length rs = length-map rs (filled m s)

  pub filled_at : (rs : List CaptureRecord) (i : ℕ) (d : CaptureRecord) → i < length rs → get_or (filled_all m s rs) i d ≡ filled m s (get_or rs i d)
  unfolding filled_all
  filled_at [] i d h = absurd (omega (arith, h))
  filled_at (r ∷ rs) zero d h = refl
  filled_at (r ∷ rs) (suc i) d h = filled_at rs i d (omega (arith, h))
