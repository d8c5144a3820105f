-- `numbered` joins three parts that share no bit, so that they add up.
use Rattle.control.proofs.Masks.{numbered-or}
use Rattle.control.proofs.numbered.Goals as goal

pub returns : goal.returns
returns c = let a = c.args in rw c.bit_if.ensures (numbered-or a.receive a.on a.low)
