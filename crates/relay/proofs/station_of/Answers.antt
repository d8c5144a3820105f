-- The six characters, each by its place.
use Rattle.relay.specs.Relay.{station_of}
use Rattle.relay.proofs.station_of.Goals as goal

pub returns : goal.returns
unfolding station_of
returns c =
    simp (
      c.character_at-6.ensures,
      c.character_at-5.ensures,
      c.character_at-4.ensures,
      c.character_at-3.ensures,
      c.character_at-2.ensures,
      c.character_at.ensures,
    )
