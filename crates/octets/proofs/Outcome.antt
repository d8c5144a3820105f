-- How many octets were written, where a refusal's value is 0.
use Rattle.std.proofs.Common.{◌≡◌, ℕ, Result, Ok, Err, refl}
use Rattle.std.specs.Result.{result_unwrap_or}
use Rattle.octets.specs.Outcome.{length_of}

pub unwrapped : {E : Type 0} (r : Result ℕ E) → result_unwrap_or r 0 ≡ length_of r
unwrapped (Ok n) = refl
unwrapped (Err e) = refl
