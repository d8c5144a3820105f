-- What a contract allows is one result: two results that both equal the definition of the arguments are equal, by cases too, and
-- so are two numbers that are both of the first row that holds, two that are 1 exactly when something holds and else 0, two answers
-- of writing or of printing with one number, and two of what they give with one number and length.
use Rattle.std.proofs.Common.{Result, Ok, Err, arith}
use Prim.Native.Nat.{ℕ}
use mathlib.Core.Path.{◌≡◌, refl, ap, sym, ◌∙◌}
use mathlib.Core.Bool.{Bool, true, false, cond}
use mathlib.Core.Logic.{◌↔◌}
use borrow.Author.Tests.{eqb-true, eqb-false}
use lib.Dec.{eqb}
use Rattle.octets.proofs.Choice.{by}
use Rattle.frame.specs.Frame.{write_number}
use Rattle.std.specs.Prelude.{Result, Ok, Err}
use Rattle.frame.specs.declared.WriteError.{WriteError}
use Rattle.frame.specs.declared.WriteError.TheVariants as write
use Rattle.printing.specs.Print.{print_number_of}
use Rattle.printing.specs.declared.PrintError.{PrintError}
use Rattle.printing.specs.declared.PrintError.TheVariants as print
use Rattle.octets.specs.Outcome.{number_by, length_of, giving}
use Rattle.octets.specs.Table.{Table, FirstRow}
use Rattle.octets.proofs.Table.{exactly}

-- by an equation: `due` is the right side of the contract
pub one_result : {A : Type 0} (due a b : A) → a ≡ due → b ≡ due → a ≡ b
one_result due a b e f = e ∙ sym f

-- by an equation in each of two cases, which a test decides
pub one_by : {A : Type 0} (test : Bool) (due other a b : A) → (test ≡ true → (a ≡ due) × (b ≡ due)) → (test ≡ false → (a ≡ other) × (b ≡ other)) → a ≡ b
one_by test due other a b f g =
    by test (λ e. one_result due a b (f e).0 (f e).1) (λ e. one_result other a b (g e).0 (g e).1)

-- by a table
pub one_number : (rows : Table) (a b : ℕ) → FirstRow rows a → FirstRow rows b → a ≡ b
one_number rows a b x y = sym ((exactly rows a).1 x) ∙ (exactly rows b).1 y

-- by an "exactly when"
pub one_yes : {P : Type 0} (a b : Bool) → ((a ≡ true) ↔ P) → ((b ≡ true) ↔ P) → a ≡ b
one_yes true true p q = refl
one_yes true false p q = sym (q.1 (p.0 refl))
one_yes false true p q = p.1 (q.0 refl)
one_yes false false p q = refl

-- by a 1 "exactly when", and else 0
pub one-flag : {P : Type 0} (a b : ℕ) → ((a ≡ 1) ↔ P) → ((P → ⊥) → a ≡ 0) → ((b ≡ 1) ↔ P) → ((P → ⊥) → b ≡ 0) → a ≡ b
one-flag {P} a b p x q y =
    by (eqb a 1)
    (λ e. let one : a ≡ 1 = eqb-true a 1 e in one ∙ sym (q.1 (p.0 one)))
    (λ e. let no : P → ⊥ = λ h. eqb-false a 1 e (p.1 h) in x no ∙ sym (y no))

-- by a number of writing or of printing: each answer has its own
its_own : {A : Type 0} (number : A → ℕ) (by_number : ℕ → A) → ((a : A) → by_number (number a) ≡ a) → (a b : A) → number a ≡ number b → a ≡ b
its_own number by_number back a b e = sym (back a) ∙ ap by_number e ∙ back b

written : ℕ → Result Unit WriteError
written n =
    cond (eqb n 0) (Ok tt) (cond (eqb n 21) (Err write.RouteTooLong) (cond (eqb n 22) (Err write.NotEncodable)
    (cond (eqb n 11) (Err write.FrameRejectInLongMode) (cond (eqb n 23) (Err write.InfoNotAllowed)
    (cond (eqb n 25) (Err write.PidOutsideClass) (Err write.NoRoom))))))

written_back : (a : Result Unit WriteError) → written (write_number a) ≡ a
unfolding written
written_back (Ok tt) = refl
written_back (Err write.RouteTooLong) = refl
written_back (Err write.NotEncodable) = refl
written_back (Err write.FrameRejectInLongMode) = refl
written_back (Err write.InfoNotAllowed) = refl
written_back (Err write.PidOutsideClass) = refl
written_back (Err write.NoRoom) = refl

pub one_answer : (a b : Result Unit WriteError) → write_number a ≡ write_number b → a ≡ b
one_answer = its_own write_number written written_back

printed : ℕ → Result Unit PrintError
printed n = cond (eqb n 0) (Ok tt) (cond (eqb n 22) (Err print.NotEncodable) (Err print.NoRoom))

printed-back : (a : Result Unit PrintError) → printed (number_by print_number_of a) ≡ a
unfolding printed
printed-back (Ok tt) = refl
printed-back (Err print.NotEncodable) = refl
printed-back (Err print.NoRoom) = refl

pub one_print : (a b : Result Unit PrintError) → number_by print_number_of a ≡ number_by print_number_of b → a ≡ b
one_print = its_own (number_by print_number_of) printed printed-back

-- by a number and a length, where the answer is one by its number, as `one_answer` and `one_print` have it
pub one_measured : {E : Type 0} (number : E → ℕ) → ((a b : Result Unit E) → number_by number a ≡ number_by number b → a ≡ b)
    → (a b : Result ℕ E) → number_by number a ≡ number_by number b → length_of a ≡ length_of b → a ≡ b
one_measured {E} number one (Ok n) (Ok m) e f = ap Ok f
one_measured {E} number one (Ok n) (Err y) e f = ap (λ (r : Result Unit E). giving r n) (one (Ok tt) (Err y) e)
one_measured {E} number one (Err x) (Ok m) e f = ap (λ (r : Result Unit E). giving r m) (one (Err x) (Ok tt) e)
one_measured {E} number one (Err x) (Err y) e f = ap (λ (r : Result Unit E). giving r 0) (one (Err x) (Err y) e)
