-- The first element that passes, as std's searches give its place.
use Rattle.std.proofs.Common.{◌≡◌, Bool, List, length, refl, arith, one-add}
use Rattle.std.specs.Option.{unwrap_or}
use Rattle.std.specs.List.{position, position_or_len}
use Rattle.std.proofs.lemmas.List.Recursion.{is_position_or_len}
use borrow.Author.Tests.{ltb-false}
use lib.Dec.{ltb}
use Rattle.octets.specs.First.{first}
use Rattle.octets.proofs.Choice.{by}
use Rattle.octets.proofs.First.{first_le}

module _ {A : Type 0} (p : A → Bool) (s : List A) where
  pub first_position : first p s ≡ position_or_len p s
  unfolding first
  first_position = is_position_or_len (first p) p refl (λ x xs. rw one-add refl) s

  pub first_found : unwrap_or (position p s) (length s) ≡ first p s
  first_found =
      rw (← first_position)
      (by (ltb (first p s) (length s))
      (λ e. rw e refl)
      (λ e. rw e (omega (arith, first_le p s, ltb-false (first p s) (length s) e))))
