-- Case by case; past the last there is `Absent`.
use mathlib.Core.Path.{ap, sym}
use borrow.Author.Rules.{rules}
use Rattle.flat.specs.Given.{mark_from}
use Rattle.flat.proofs.Past.{mark-past}
use Rattle.flat.proofs.given.mark_from.Goals as goal

pub returns-in-0 : goal.returns-in-0
unfolding mark_from
returns-in-0 c = ap mark_from (sym c.in-0.is)

pub returns-in-1 : goal.returns-in-1
unfolding mark_from
returns-in-1 c = ap mark_from (sym c.in-1.is)

pub returns-in_default : goal.returns-in_default
returns-in_default c = sym (mark-past _ (search rules))
