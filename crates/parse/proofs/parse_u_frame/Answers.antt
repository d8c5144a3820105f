-- `parse_u_frame` tells the kind by the octet without its P/F bit.
use mathlib.Core.Path.{sym, ◌∙◌}
use borrow.Author.Rules.{rules}
use borrow.Author.Tests.{ne_eqb}
use Rattle.parse.specs.Content.{u_of}
use Rattle.control.proofs.Masks.{poll_mask, u_mask}
use Rattle.parse.proofs.parse_u_frame.Goals as goal

pub returns-in-47 : goal.returns-in-47
unfolding u_of
returns-in-47 c = simp (sym (u_mask c.args.c c.ranges.c.fits) ∙ c.in-47.is, poll_mask)

pub returns-in-111 : goal.returns-in-111
unfolding u_of
returns-in-111 c = simp (sym (u_mask c.args.c c.ranges.c.fits) ∙ c.in-111.is, poll_mask)

pub returns-in-67 : goal.returns-in-67
unfolding u_of
returns-in-67 c = simp (sym (u_mask c.args.c c.ranges.c.fits) ∙ c.in-67.is, poll_mask)

pub returns-in-15 : goal.returns-in-15
unfolding u_of
returns-in-15 c = simp (sym (u_mask c.args.c c.ranges.c.fits) ∙ c.in-15.is, poll_mask)

pub returns-in-99 : goal.returns-in-99
unfolding u_of
returns-in-99 c = simp (sym (u_mask c.args.c c.ranges.c.fits) ∙ c.in-99.is, poll_mask)

pub returns-in-135 : goal.returns-in-135
unfolding u_of
returns-in-135 c = simp (sym (u_mask c.args.c c.ranges.c.fits) ∙ c.in-135.is, c.parse_frmr_frame.ensures)

pub returns-in-3 : goal.returns-in-3
unfolding u_of
returns-in-3 c = simp (sym (u_mask c.args.c c.ranges.c.fits) ∙ c.in-3.is, c.parse_ui_frame.ensures)

pub returns-in-175 : goal.returns-in-175
unfolding u_of
returns-in-175 c = simp (sym (u_mask c.args.c c.ranges.c.fits) ∙ c.in-175.is, poll_mask)

pub returns-in-227 : goal.returns-in-227
unfolding u_of
returns-in-227 c = simp (sym (u_mask c.args.c c.ranges.c.fits) ∙ c.in-227.is, poll_mask)

pub returns-in_default : goal.returns-in_default
unfolding u_of
returns-in_default c = search (rules, ne_eqb, sym (u_mask c.args.c c.ranges.c.fits))
