-- `from_byte` gives the identifier of the octet: the class first, a name by its octet, else `Unknown`. One more name is one more answer
-- like those of the names.
use mathlib.Core.Path.{ap, sym, ◌∙◌}
use borrow.Author.Rules.{rules}
use borrow.Author.Tests.{ne_eqb}
use Rattle.protocol.specs.Pid.{pid_of, among}
use Rattle.protocol.proofs.ProtocolIdentifier.from_byte.Goals as goal

pub returns-then-is_layer3 : goal.returns-then-is_layer3
unfolding pid_of
returns-then-is_layer3 c = simp (sym c.is_layer3.ensures, c.if-is_layer3.true)

pub returns-in-1 : goal.returns-in-1
unfolding pid_of among
returns-in-1 c = ap pid_of (sym c.in-1.is)

pub returns-in-6 : goal.returns-in-6
unfolding pid_of among
returns-in-6 c = ap pid_of (sym c.in-6.is)

pub returns-in-7 : goal.returns-in-7
unfolding pid_of among
returns-in-7 c = ap pid_of (sym c.in-7.is)

pub returns-in-8 : goal.returns-in-8
unfolding pid_of among
returns-in-8 c = ap pid_of (sym c.in-8.is)

pub returns-in-195 : goal.returns-in-195
unfolding pid_of among
returns-in-195 c = ap pid_of (sym c.in-195.is)

pub returns-in-196 : goal.returns-in-196
unfolding pid_of among
returns-in-196 c = ap pid_of (sym c.in-196.is)

pub returns-in-202 : goal.returns-in-202
unfolding pid_of among
returns-in-202 c = ap pid_of (sym c.in-202.is)

pub returns-in-203 : goal.returns-in-203
unfolding pid_of among
returns-in-203 c = ap pid_of (sym c.in-203.is)

pub returns-in-204 : goal.returns-in-204
unfolding pid_of among
returns-in-204 c = ap pid_of (sym c.in-204.is)

pub returns-in-205 : goal.returns-in-205
unfolding pid_of among
returns-in-205 c = ap pid_of (sym c.in-205.is)

pub returns-in-206 : goal.returns-in-206
unfolding pid_of among
returns-in-206 c = ap pid_of (sym c.in-206.is)

pub returns-in-207 : goal.returns-in-207
unfolding pid_of among
returns-in-207 c = ap pid_of (sym c.in-207.is)

pub returns-in-240 : goal.returns-in-240
unfolding pid_of among
returns-in-240 c = ap pid_of (sym c.in-240.is)

pub returns-in-255 : goal.returns-in-255
unfolding pid_of among
returns-in-255 c = ap pid_of (sym c.in-255.is)

pub returns-in_default : goal.returns-in_default
unfolding pid_of among
returns-in_default c = search (ne_eqb, rules, sym c.is_layer3.ensures ∙ c.if-is_layer3.false)
