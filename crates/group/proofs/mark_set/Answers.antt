-- The mask's test is that of the bit.
use Rattle.octets.proofs.Bits.{bit_test}
use Rattle.group.proofs.mark_set.Goals as goal

pub returns : goal.returns
returns c = bit_test c.args.last 7
