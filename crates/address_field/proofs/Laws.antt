-- Where the groups are there.
use Prim.Native.Nat.{ℕ, ◌+◌, ◌*◌, ◌≤◌}
use mathlib.Core.Path.{◌≡◌}
use mathlib.Core.Bool.{true}
use mathlib.Core.List.{List}
use borrow.Author.Tests.{le-leb, leb-true}
use lib.Dec.{leb}
use lib.ListN.{length}
use Rattle.octets.proofs.Choice.{both}
use Rattle.content.specs.declared.FrameContent.{FrameContent}
use Rattle.decode.specs.Read.{frame_at}
use Rattle.decode.specs.Outline.{has_groups}
use Rattle.address_field.specs.Field.{framed}

-- what the test tells
pub has_groups_lem : (len n : ℕ) → has_groups len n ≡ true → (n ≤ 8) × (14 + 7 * n ≤ len)
has_groups_lem len n e =
    let b = both (leb n 8) _ e in
    (leb-true n 8 b.0, leb-true (14 + 7 * n) len b.1)

-- the frame is that of the groups
pub framed_at : (s : List ℕ) (n : ℕ) → n ≤ 8 → 14 + 7 * n ≤ length s → (k : FrameContent) → framed s n k ≡ frame_at s 0 n k
unfolding framed
framed_at s n few long k = simp (le-leb n 8 few, le-leb (14 + 7 * n) (length s) long)
