-- Eight octets.
use Rattle.flat.specs.Given.{address_at}
use Rattle.flat.proofs.given.address_at.Goals as goal

pub returns : goal.returns
unfolding address_at
returns c =
    simp (
      c.octet-8.ensures,
      c.octet-7.ensures,
      c.octet-6.ensures,
      c.octet-5.ensures,
      c.octet-4.ensures,
      c.octet-3.ensures,
      c.octet-2.ensures,
      c.octet.ensures,
    )
