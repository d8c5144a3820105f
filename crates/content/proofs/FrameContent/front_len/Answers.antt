-- I and S frames by the mode; each other kind by its own number.
use mathlib.Core.Path.{sym}
use native.Mathlib.Omega.{arith}
use Rattle.control.proofs.Laws.{few-controls, sequenced-length, before_info}
use borrow.Author.Rules.{rules}
use Rattle.content.proofs.FrameContent.front_len.Goals as goal

pub overflow_add-result : goal.overflow_add-result
overflow_add-result c = omega (arith, c.controls.ensures, few-controls c.args.mode)

pub returns-in-Information : goal.returns-in-Information
returns-in-Information c = rw (c.controls.ensures, c.in-Information.is) (sym (before_info c.args.mode _ _ _ _))

pub returns-in-ReceiveReady : goal.returns-in-ReceiveReady
returns-in-ReceiveReady c = search (rules, sequenced-length)
