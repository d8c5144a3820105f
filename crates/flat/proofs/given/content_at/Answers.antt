-- The parts are what their own functions ensure.
use Rattle.flat.specs.Given.{content_at}
use Rattle.flat.proofs.given.content_at.Goals as goal

pub returns : goal.returns
unfolding content_at
returns c =
    simp (
      c.content_with.ensures,
      c.octet-3.ensures,
      c.fields_at-fields.ensures,
      c.pid_from-pid.ensures,
      c.octet-2.ensures,
      c.octet.ensures,
    )
