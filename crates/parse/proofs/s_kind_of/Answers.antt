-- The kind by the low four bits.
use mathlib.Core.Path.{sym, ◌∙◌}
use borrow.Author.Tests.{ne_eqb}
use Rattle.control.proofs.Masks.{s_mask}
use Rattle.parse.specs.Content.{s_kind_of}
use borrow.Author.Rules.{rules}
use Rattle.parse.proofs.s_kind_of.Goals as goal

pub returns-in-1 : goal.returns-in-1
unfolding s_kind_of
returns-in-1 c = simp (sym (s_mask c.args.c) ∙ c.in-1.is)

pub returns-in-5 : goal.returns-in-5
unfolding s_kind_of
returns-in-5 c = simp (sym (s_mask c.args.c) ∙ c.in-5.is)

pub returns-in-9 : goal.returns-in-9
unfolding s_kind_of
returns-in-9 c = simp (sym (s_mask c.args.c) ∙ c.in-9.is)

pub returns-in_default : goal.returns-in_default
unfolding s_kind_of
returns-in_default c = search (rules, ne_eqb, sym (s_mask c.args.c))
