-- An answer beside its address, and the same as one `Result`: the number is the same, and so is whether it is accepted.
use Rattle.std.proofs.Common.{◌≡◌, ℕ, Result, Ok, Err, refl}
use Rattle.std.specs.Prelude.{IsOk}
use Rattle.octets.specs.Outcome.{number_by, giving}

module _ {T E : Type 0} where
  pub number_giving : (number : E → ℕ) (a : Result Unit E) (v : T) → number_by number (giving a v) ≡ number_by number a
  number_giving number (Ok tt) v = refl
  number_giving number (Err e) v = refl

  pub ok_given : (a : Result Unit E) (v : T) → IsOk (giving a v) → IsOk a
  ok_given (Ok tt) v h = h
  ok_given (Err e) v h = h

  pub given-ok : (a : Result Unit E) (v : T) → IsOk a → IsOk (giving a v)
  given-ok (Ok tt) v h = h
  given-ok (Err e) v h = h
