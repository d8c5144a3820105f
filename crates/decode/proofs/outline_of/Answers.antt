-- A first octet that is not there or null decides; else the search for the end does, and the address field up to it.
use Rattle.std.proofs.Common.{◌≡◌, ◌∙◌, refl, sym, arith}
use Rattle.std.specs.Prelude.{true, get_or}
use borrow.Author.Tests.{eq-eqb, ne_eqb}
use Rattle.decode.specs.Read.{nonzero, end_of, refused_with}
use Rattle.decode.proofs.Read.{end-masked}
use Rattle.decode.proofs.Whole.{first-decode, null_outline}
use Rattle.decode.proofs.outline_of.Goals as goal
use Rattle.decode.proofs.outline_of.Goals.{After-find-end, Else-not-starts}

first : (c : Else-not-starts) → nonzero (get_or c.args.bytes.now 0 0) ≡ true
first c = sym c.starts.ensures ∙ c.if-not-starts.false

end : (c : After-find-end) → c.find-end.result ≡ end_of c.args.bytes.now
end c = c.find-end.ensures.value ∙ end-masked _

pub returns-then-not-starts : goal.returns-then-not-starts
returns-then-not-starts c = rw c.null_error.ensures (null_outline _ _ (sym c.starts.ensures ∙ c.if-not-starts.true))

pub returns-then-end-bytes : goal.returns-then-end-bytes
unfolding refused_with
returns-then-end-bytes c = rw (first-decode _ _ (first (goal.at.returns-then-end-bytes c).Else-not-starts), ← end (goal.at.returns-then-end-bytes c).After-find-end, eq-eqb _ _ c.if-end-bytes.true) refl

pub outline_field-requires : goal.outline_field-requires
outline_field-requires c = omega (arith, c.find-end.ensures.upper_bound, c.if-end-bytes.false)

pub returns : goal.returns
returns c = c.outline_field.ensures ∙ rw (first-decode _ _ (first (goal.at.returns c).Else-not-starts), ← end (goal.at.returns c).After-find-end, ne_eqb _ _ c.if-end-bytes.false) refl
