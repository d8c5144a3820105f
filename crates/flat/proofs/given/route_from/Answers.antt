-- Eight entries.
use Rattle.flat.specs.Given.{route_from}
use Rattle.flat.proofs.given.route_from.Goals as goal

pub returns : goal.returns
unfolding route_from
returns c =
    simp (
      c.entry_at-8.ensures,
      c.entry_at-7.ensures,
      c.entry_at-6.ensures,
      c.entry_at-5.ensures,
      c.entry_at-4.ensures,
      c.entry_at-3.ensures,
      c.entry_at-2.ensures,
      c.entry_at.ensures,
    )
