-- What a frame leaves as it was, and which frames are counted.
use Prim.Native.Nat.{ℕ, ◌≤◌}
use mathlib.Core.Path.{◌≡◌, refl, sym, ◌∙◌}
use mathlib.Core.Bool.{Bool, true, false}
use Rattle.std.proofs.Common.{Option, Some, None}
use native.Mathlib.Omega.{arith}
use lib.Dec.{eqb}
use Rattle.octets.proofs.Choice.{either}
use Rattle.content.specs.declared.FrameContent.{FrameContent}
use Rattle.link_record.specs.Record.{up, counted}
use Rattle.link_record.proofs.Laws.{counted_is}
use Rattle.link_record.specs.declared.Link.{Link}
use Rattle.link_frame.specs.declared.Event.{Event}
use Rattle.link_frame.specs.declared.Event.TheVariants.{Asks, Acknowledges, Ends, Numbered}
use Rattle.link_frame.specs.declared.Side.{Side}
use Rattle.link_frame.specs.declared.Side.TheVariants.{A, B}
use Rattle.link_frame.specs.declared.Verdict.{Verdict}
use Rattle.link_frame.specs.Frame.{asked_by, other, turned, acknowledged, moved_on, verdict_of, moves, numbered, event_of, heard_as, heard_of}

-- a frame is heard as its event
pub heard_as_lem : (from : Side) (k : FrameContent) (l : Link) (e : Option Event) → e ≡ event_of k → heard_as from e l ≡ heard_of from k l
unfolding heard_of
heard_as_lem from k l e h = rw h refl

-- what no frame changes here: the stations, the counts and the number offered
pub record Kept (l m : Link) : Type 0 where
  pub a : m.a ≡ l.a
  pub b : m.b ≡ l.b
  pub counts : counted m ≡ counted l
  pub offered : m.offered ≡ l.offered

-- and what stays within bounds
pub record Within (m : Link) : Type 0 where
  pub from_a : m.expected_from_a ≤ 7
  pub from_b : m.expected_from_b ≤ 7

as_before : (l : Link) → Kept l l
as_before l = record { a = refl; b = refl; counts = refl; offered = refl }

turned_kept : (l : Link) (state ea eb ma mb : ℕ) → Kept l (turned l state ea eb ma mb)
turned_kept l state ea eb ma mb = record { a = refl; b = refl; counts = counted_is (turned l state ea eb ma mb) ∙ sym (counted_is l); offered = refl }

acknowledged_kept : (from : Side) (l : Link) → Kept l (acknowledged from l)
unfolding acknowledged
acknowledged_kept from l = either (Kept l) (eqb l.state (asked_by (other from))) (λ e. turned_kept l up 0 0 0 0) (λ e. as_before l)

moved_on_kept : (from : Side) (l : Link) → Kept l (moved_on from l)
moved_on_kept A l = turned_kept l _ _ _ _ _
moved_on_kept B l = turned_kept l _ _ _ _ _

numbered_kept : (from : Side) (n : ℕ) (l : Link) → Kept l (numbered from n l).link
numbered_kept from n l = either (Kept l) (moves (verdict_of from n l)) (λ e. moved_on_kept from l) (λ e. as_before l)

event_kept : (from : Side) (e : Option Event) (l : Link) → Kept l (heard_as from e l).link
event_kept from None l = as_before l
event_kept from (Some Asks) l = turned_kept l _ _ _ _ _
event_kept from (Some Acknowledges) l = acknowledged_kept from l
event_kept from (Some Ends) l = turned_kept l _ _ _ _ _
event_kept from (Some (Numbered n)) l = numbered_kept from n l

pub heard_kept : (from : Side) (k : FrameContent) (l : Link) → Kept l (heard_of from k l).link
unfolding heard_of
heard_kept from k l = event_kept from (event_of k) l

acknowledged_within : (from : Side) (l : Link) → Within l → Within (acknowledged from l)
unfolding acknowledged
acknowledged_within from l w = either Within (eqb l.state (asked_by (other from))) (λ e. record { from_a = omega arith; from_b = omega arith }) (λ e. w)

moved_on_within : (from : Side) (l : Link) → Within l → Within (moved_on from l)
moved_on_within A l w = record { from_a = omega arith; from_b = w.from_b }
moved_on_within B l w = record { from_a = w.from_a; from_b = omega arith }

numbered_within : (from : Side) (n : ℕ) (l : Link) → Within l → Within (numbered from n l).link
numbered_within from n l w = either Within (moves (verdict_of from n l)) (λ e. moved_on_within from l w) (λ e. w)

event_within : (from : Side) (e : Option Event) (l : Link) → Within l → Within (heard_as from e l).link
event_within from None l w = w
event_within from (Some Asks) l w = record { from_a = w.from_a; from_b = w.from_b }
event_within from (Some Acknowledges) l w = acknowledged_within from l w
event_within from (Some Ends) l w = record { from_a = w.from_a; from_b = w.from_b }
event_within from (Some (Numbered n)) l w = numbered_within from n l w

pub heard_within : (from : Side) (k : FrameContent) (l : Link) → Within l → Within (heard_of from k l).link
unfolding heard_of
heard_within from k l w = event_within from (event_of k) l w

-- whether there is a verdict, so that the frame is counted
abbrev pub is_counted : Option Verdict → Bool
is_counted None = false
is_counted (Some v) = true

-- whether an event is an I frame
abbrev pub is_numbered : Option Event → Bool
is_numbered None = false
is_numbered (Some Asks) = false
is_numbered (Some Acknowledges) = false
is_numbered (Some Ends) = false
is_numbered (Some (Numbered n)) = true

event-counted : (from : Side) (e : Option Event) (l : Link) → is_counted (heard_as from e l).verdict ≡ is_numbered e
event-counted from None l = refl
event-counted from (Some Asks) l = refl
event-counted from (Some Acknowledges) l = refl
event-counted from (Some Ends) l = refl
event-counted from (Some (Numbered n)) l = refl

-- I frames are counted, whatever the verdict is, and no others
pub heard-counted : (from : Side) (k : FrameContent) (l : Link) → is_counted (heard_of from k l).verdict ≡ is_numbered (event_of k)
unfolding heard_of
heard-counted from k l = event-counted from (event_of k) l
