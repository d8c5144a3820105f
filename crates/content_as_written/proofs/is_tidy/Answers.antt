-- S by its control octet, FRMR by the octets after it.
use mathlib.Core.Path.{◌≡◌, sym, ◌∙◌}
use borrow.Author.Tests.{eq-eqb, ne_eqb}
use lib.Bits.{bit_and}
use lib.ListN.{get_or}
use Rattle.control.specs.Control.{u_kind}
use Rattle.control.proofs.Masks.{u_mask}
use Rattle.parse.specs.Numbers.{is_s}
use Rattle.content_as_written.specs.AsWritten.{is_tidy}
use borrow.Author.Rules.{rules}
use Rattle.content_as_written.proofs.is_tidy.Goals as goal
use Rattle.content_as_written.proofs.is_tidy.Goals.{After-is_s, After-octet-control}

s-test : (c : After-is_s) → is_s (get_or c.args.bytes.now 0 0) ≡ c.is_s.result
s-test c = rw (← c.octet-control.ensures) (sym c.is_s.ensures)

-- the control octet without its P/F bit
masked : (c : After-octet-control) → bit_and c.octet-control.result 0xEF ≡ u_kind (get_or c.args.bytes.now 0 0)
masked c = rw c.octet-control.ensures (u_mask _ (search rules))

pub returns-then-is_s : goal.returns-then-is_s
unfolding is_tidy
returns-then-is_s c = simp (s-test (goal.at.returns-then-is_s c).After-is_s, c.if-is_s.true, c.s_tidy.ensures, c.octet-control.ensures)

pub returns-then-kind : goal.returns-then-kind
unfolding is_tidy
returns-then-kind c = simp (s-test (goal.at.returns-then-kind c).After-is_s, c.if-is_s.false, ne_eqb _ 0x87 (λ e. c.if-kind.true (masked (goal.at.returns-then-kind c).After-octet-control ∙ e)))

pub returns : goal.returns
unfolding is_tidy
returns c =
    simp (
      s-test (goal.at.returns c).After-is_s,
      c.if-is_s.false,
      eq-eqb _ 0x87 (sym (masked (goal.at.returns c).After-octet-control) ∙ c.if-kind.false),
      c.frmr_tidy.ensures,
      c.octet-2.ensures,
      c.octet.ensures,
    )
