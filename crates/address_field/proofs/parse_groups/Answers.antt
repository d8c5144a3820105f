-- The groups at 0, 7 and 14.
use Rattle.decode.specs.Read.{frame_at}
use Rattle.address_field.proofs.parse_groups.Goals as goal

pub returns : goal.returns
unfolding frame_at
returns c = simp (c.command_of.ensures, c.parse_route.ensures, c.parse_group-from.ensures, c.parse_group-to.ensures)
