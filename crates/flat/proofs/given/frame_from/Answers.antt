-- The parts are what their own functions ensure.
use Rattle.flat.specs.Given.{frame_from}
use Rattle.flat.proofs.given.frame_from.Goals as goal

pub returns : goal.returns
unfolding frame_from
returns c =
    simp (
      c.octet-2.ensures,
      c.content_at-content.ensures,
      c.mark_from-command_or_response.ensures,
      c.octet.ensures,
      c.route_from-route.ensures,
      c.address_at-source.ensures,
      c.address_at-destination.ensures,
    )
