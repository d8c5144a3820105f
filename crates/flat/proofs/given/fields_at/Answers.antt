-- Field by field.
use Rattle.flat.specs.Given.{fields_at}
use Rattle.flat.proofs.given.fields_at.Goals as goal

pub returns : goal.returns
unfolding fields_at
returns c =
    simp (
      c.octet-4.ensures,
      c.octet-3.ensures,
      c.flag-5.ensures,
      c.flag-4.ensures,
      c.flag-3.ensures,
      c.flag-2.ensures,
      c.octet-2.ensures,
      c.flag.ensures,
      c.response_from-command_response.ensures,
      c.octet.ensures,
    )
