-- `parse_address` gives the fields of the group: the shifts and masks are those of the definition.
use Rattle.std.proofs.Common.{ℕ, ◌/◌, get_or}
use lib.Bits.{and_mask}
use Rattle.group.specs.Group.{address_of, mark_of}
use Rattle.group.proofs.parse_address.Goals as goal

pub returns : goal.returns
unfolding address_of mark_of
returns c =
    let b : ℕ = get_or c.args.group 6 0 in
    rw c.mark_set.ensures (simp (and_mask (b / 2) 4, and_mask (b / 32) 2))
