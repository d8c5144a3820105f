-- A call takes some of what is left of the piece, and no more, and what it gives out fits the array.
use Prim.Native.Nat.{ℕ, ◌+◌, ◌-◌, ◌≤◌, ◌<◌}
use mathlib.Core.Path.{◌≡◌, sym}
use mathlib.Core.List.{List}
use native.Mathlib.Omega.{arith}
use lib.ListN.{length, take, drop, length-drop}
use lib.Seq.{length-take-le}
use Rattle.octets.proofs.Splice.{part_from}
use Rattle.kiss_state.specs.declared.Stream.{Stream}
use Rattle.kiss_stream.specs.declared.Fed.{Fed}
use Rattle.kiss_stream.specs.Feed.{feed_of, fed_of}
use Rattle.kiss_stream.proofs.Calls.{call_some, call-most, call-short}
use Rattle.follow.proofs.follow_packet.Goals as goal

takes : (s : Stream) (l : List ℕ) (at : ℕ) (f : Fed) → at < length l → f ≡ fed_of (feed_of s (take (length l - at) (drop at l)))
    → (1 ≤ f.taken) × (at + f.taken ≤ length l) × (f.packet.length ≤ 1024)
takes s l at f h e =
    let left = length-drop at l in
    rw (e, part_from l at)
    (call_some s (drop at l) (omega (arith, left)), omega (arith, call-most s (drop at l), left), call-short s (drop at l))

pub overflow_add-next : goal.overflow_add-next
overflow_add-next c = omega (arith, (takes _ _ c.args.at _ c.requires c.feed-fed.ensures.0).1)

pub returns-then-packet-eq0 : goal.returns-then-packet-eq0
returns-then-packet-eq0 c =
    let t = takes _ _ c.args.at _ c.requires c.feed-fed.ensures.0 in
    (omega (arith, t.0), t.1)

-- what is given out stands in the array
pub slice_bounds-given-end : goal.slice_bounds-given-end
slice_bounds-given-end c = omega (arith, (takes _ _ c.args.at _ c.requires c.feed-fed.ensures.0).2, c.feed-fed.array_long)

pub slice_bounds-follow_frame-end : goal.slice_bounds-follow_frame-end
slice_bounds-follow_frame-end c =
    sym (length-take-le _ c.feed-fed.new.octets (omega (arith, (takes _ _ c.args.at _ c.requires c.feed-fed.ensures.0).2, c.feed-fed.array_long)))

pub returns : goal.returns
returns c =
    let t = takes _ _ c.args.at _ c.requires c.feed-fed.ensures.0 in
    (omega (arith, t.0), t.1)
