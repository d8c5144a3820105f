-- The number is 1 where the check says yes, and that is exact.
use mathlib.Core.Path.{◌≡◌, refl}
use mathlib.Core.Bool.{Bool, true, false, false≢true, cond}
use mathlib.Core.Logic.{◌↔◌}
use native.Mathlib.Omega.{arith}
use Prim.Native.Nat.{ℕ}
use Rattle.control.specs.declared.Mode.TheVariants.{Short}
use Rattle.demands.proofs.OneSpelling.{one_spelling}
use borrow.Author.Rules.{rules}
use Rattle.demand_contracts_calls.proofs.canonical.Goals as goal

flag : {P : Type 0} (b : Bool) → (b ≡ true ↔ P) → ((◌≡◌ {A = ℕ} (cond b 1 0) 1) ↔ P) × ((P → ⊥) → ◌≡◌ {A = ℕ} (cond b 1 0) 0)
flag true e = ((λ z. e.0 refl, λ p. refl), λ n. absurd (n (e.0 refl)))
flag false e = ((λ z. absurd (omega (arith, z)), λ p. absurd (false≢true (e.1 p))), λ n. refl)

pub returns : goal.returns
returns c =
    let f = flag _ (one_spelling Short c.args.input.now (λ k. search rules)).exact in
    record { variant = rw c.ax25_canonical.ensures f.0; value = rw c.ax25_canonical.ensures f.1 }
