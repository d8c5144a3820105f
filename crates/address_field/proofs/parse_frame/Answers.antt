-- By whether the groups are there.
use mathlib.Core.Path.{◌≡◌, sym, ◌∙◌}
use mathlib.Core.Bool.{true}
use lib.ListN.{length}
use Rattle.decode.specs.Outline.{has_groups}
use Rattle.address_field.specs.Field.{framed}
use Rattle.address_field.proofs.Laws.{has_groups_lem}
use Rattle.address_field.proofs.parse_frame.Goals as goal
use Rattle.address_field.proofs.parse_frame.Goals.{Else-not-has_groups}

-- past the test the groups are there
there : (c : Else-not-has_groups) → let a = c.args in has_groups (length a.bytes.now) a.count ≡ true
there c = sym c.has_groups.ensures ∙ c.if-not-has_groups.false

pub returns-then-not-has_groups : goal.returns-then-not-has_groups
unfolding framed
returns-then-not-has_groups c = simp (c.default.ensures, sym c.has_groups.ensures ∙ c.if-not-has_groups.true)

pub parse_groups-requires : goal.parse_groups-requires
parse_groups-requires c = has_groups_lem _ _ (there (goal.at.parse_groups-requires c).Else-not-has_groups)

pub returns : goal.returns
unfolding framed
returns c = simp (c.parse_groups.ensures, there (goal.at.returns c).Else-not-has_groups)
