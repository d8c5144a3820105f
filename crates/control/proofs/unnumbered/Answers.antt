-- `unnumbered` joins two parts that share no bit, so that they add up.
use Rattle.control.proofs.Masks.{unnumbered-or}
use Rattle.control.proofs.unnumbered.Goals as goal

pub returns : goal.returns
returns c = rw c.bit_if.ensures (unnumbered-or c.args.kind c.ranges.kind.fits c.args.on)
