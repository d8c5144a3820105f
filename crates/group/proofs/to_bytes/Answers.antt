-- `to_bytes` refuses what cannot be written, and else gives the group.
use mathlib.Core.Path.{sym, ◌∙◌}
use Rattle.group.specs.Group.{write_group}
use Rattle.group.proofs.to_bytes.Goals as goal

pub returns-then-not-is_encodable : goal.returns-then-not-is_encodable
unfolding write_group
returns-then-not-is_encodable c = simp (sym c.is_encodable.ensures ∙ c.if-not-is_encodable.true)

pub returns : goal.returns
unfolding write_group
returns c = simp (sym c.is_encodable.ensures ∙ c.if-not-is_encodable.false, c.group_of.ensures)
