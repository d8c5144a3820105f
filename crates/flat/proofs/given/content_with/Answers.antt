-- Kind by kind; past the last there is `UnknownContent`.
use Prim.Native.Nat.{ℕ}
use mathlib.Core.Path.{ap, sym}
use borrow.Author.Rules.{rules}
use Rattle.flat.specs.Given.{content_with}
use Rattle.flat.proofs.Past.{content-past}
use Rattle.flat.proofs.given.content_with.Goals as goal

pub returns-in-0 : goal.returns-in-0
unfolding content_with
returns-in-0 c = ap (λ (k : ℕ). content_with k c.args.pid c.args.fields) (sym c.in-0.is)

pub returns-in-1 : goal.returns-in-1
unfolding content_with
returns-in-1 c = ap (λ (k : ℕ). content_with k c.args.pid c.args.fields) (sym c.in-1.is)

pub returns-in-2 : goal.returns-in-2
unfolding content_with
returns-in-2 c = ap (λ (k : ℕ). content_with k c.args.pid c.args.fields) (sym c.in-2.is)

pub returns-in-3 : goal.returns-in-3
unfolding content_with
returns-in-3 c = ap (λ (k : ℕ). content_with k c.args.pid c.args.fields) (sym c.in-3.is)

pub returns-in-4 : goal.returns-in-4
unfolding content_with
returns-in-4 c = ap (λ (k : ℕ). content_with k c.args.pid c.args.fields) (sym c.in-4.is)

pub returns-in-5 : goal.returns-in-5
unfolding content_with
returns-in-5 c = ap (λ (k : ℕ). content_with k c.args.pid c.args.fields) (sym c.in-5.is)

pub returns-in-6 : goal.returns-in-6
unfolding content_with
returns-in-6 c = ap (λ (k : ℕ). content_with k c.args.pid c.args.fields) (sym c.in-6.is)

pub returns-in-7 : goal.returns-in-7
unfolding content_with
returns-in-7 c = ap (λ (k : ℕ). content_with k c.args.pid c.args.fields) (sym c.in-7.is)

pub returns-in-8 : goal.returns-in-8
unfolding content_with
returns-in-8 c = ap (λ (k : ℕ). content_with k c.args.pid c.args.fields) (sym c.in-8.is)

pub returns-in-9 : goal.returns-in-9
unfolding content_with
returns-in-9 c = ap (λ (k : ℕ). content_with k c.args.pid c.args.fields) (sym c.in-9.is)

pub returns-in-10 : goal.returns-in-10
unfolding content_with
returns-in-10 c = ap (λ (k : ℕ). content_with k c.args.pid c.args.fields) (sym c.in-10.is)

pub returns-in-11 : goal.returns-in-11
unfolding content_with
returns-in-11 c = ap (λ (k : ℕ). content_with k c.args.pid c.args.fields) (sym c.in-11.is)

pub returns-in-12 : goal.returns-in-12
unfolding content_with
returns-in-12 c = ap (λ (k : ℕ). content_with k c.args.pid c.args.fields) (sym c.in-12.is)

pub returns-in-13 : goal.returns-in-13
unfolding content_with
returns-in-13 c = ap (λ (k : ℕ). content_with k c.args.pid c.args.fields) (sym c.in-13.is)

pub returns-in_default : goal.returns-in_default
returns-in_default c = sym (content-past _ _ _ (search rules))
