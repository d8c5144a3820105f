-- The address, then the octet after it.
use Rattle.flat.specs.Given.{entry_at}
use Rattle.flat.proofs.given.entry_at.Goals as goal

pub returns : goal.returns
unfolding entry_at
returns c = simp (c.flag-has_repeated.ensures, c.address_at-repeater.ensures)
