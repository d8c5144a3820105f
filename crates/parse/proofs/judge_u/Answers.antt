-- The kind by the octet without its P/F bit.
use mathlib.Core.Path.{sym, ◌∙◌}
use borrow.Author.Rules.{rules}
use borrow.Author.Tests.{ne_eqb}
use Rattle.control.proofs.Masks.{u_mask}
use Rattle.parse.specs.Content.{u_of}
use Rattle.parse.proofs.judge_u.Goals as goal

pub returns-in-47 : goal.returns-in-47
unfolding u_of
returns-in-47 c = search (rules, sym (u_mask c.args.c c.ranges.c.fits))

pub returns-in-135 : goal.returns-in-135
unfolding u_of
returns-in-135 c = simp (sym (u_mask c.args.c c.ranges.c.fits) ∙ c.in-135.is, c.judge_frmr.ensures)

pub returns-in-3 : goal.returns-in-3
unfolding u_of
returns-in-3 c = simp (sym (u_mask c.args.c c.ranges.c.fits) ∙ c.in-3.is, c.judge_ui.ensures)

pub returns-in-175 : goal.returns-in-175
unfolding u_of
returns-in-175 c = search (rules, sym (u_mask c.args.c c.ranges.c.fits))

pub returns-in_default : goal.returns-in_default
unfolding u_of
returns-in_default c = search (rules, ne_eqb, sym (u_mask c.args.c c.ranges.c.fits))
