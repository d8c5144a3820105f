-- By the octet without its P/F bit.
use mathlib.Core.Path.{sym}
use borrow.Author.Tests.{ne_eqb}
use Rattle.control.proofs.Masks.{u_mask}
use borrow.Author.Rules.{rules}
use Rattle.content_as_written.proofs.u_has_tail.Goals as goal

pub returns-in-3 : goal.returns-in-3
returns-in-3 c = search (rules, sym (u_mask c.args.control c.ranges.control.fits))

pub returns-in_default : goal.returns-in_default
returns-in_default c = search (rules, ne_eqb, sym (u_mask c.args.control c.ranges.control.fits))
