-- Texts put into a buffer one after the other: a text was put from `at` on, and ends before `end`.
use Prim.Native.Nat.{ℕ, ◌+◌, ◌≤◌, ◌<◌}
use mathlib.Core.Path.{◌≡◌, refl, ◌∙◌}
use mathlib.Core.List.{List, ◌++◌}
use native.Mathlib.Omega.{arith}
use borrow.Author.Tests.{lt-ltb, le-ltb}
use lib.ListN.{length, length-append}
use Rattle.octets.specs.Splice.{splice}
use Rattle.octets.proofs.Splice.{splice-length, splice-more}
use Rattle.words.specs.Room.{behind}

abbrev pub Put : List ℕ → List ℕ → ℕ → ℕ → List ℕ → Type 0
Put before after at end text = (after ≡ splice before at text) × (end ≡ at + length text)

-- the place behind a text, where it fits and where it does not
pub behind_in : (room at : ℕ) (t : List ℕ) → at + length t ≤ room → behind room at t ≡ at + length t
unfolding behind
behind_in room at t h = rw (le-ltb room (at + length t) h) refl

pub behind_out : (room at : ℕ) (t : List ℕ) → room < at + length t → behind room at t ≡ at
unfolding behind
behind_out room at t h = rw (lt-ltb room (at + length t) h) refl

module _ (l : List ℕ) (at : ℕ) (a b : List ℕ) (fits : at + length (a ++ b) ≤ length l) where
  -- where two texts fit, the second does once the first is there
  pub fits_next : {m : List ℕ} {r : ℕ} → Put l m at r a → r + length b ≤ length m
  fits_next p = rw (p.0, splice-length, p.1) (omega (arith, length-append a b, fits))

  -- one after the other they are one text
  pub put_then : {m n : List ℕ} {r q : ℕ} → Put l m at r a → Put m n r q b → Put l n at q (a ++ b)
  put_then p s = (
    s.0 ∙ rw (p.0, p.1) (splice-more l at a b (omega (arith, length-append a b, fits))),
    omega (arith, s.1, p.1, length-append a b),
  )

-- three texts, as every line has
module _ (l : List ℕ) (at : ℕ) (a b c : List ℕ) (fits : at + length (a ++ (b ++ c)) ≤ length l) where
  pub put_three : {m n o : List ℕ} {r q e : ℕ} → Put l m at r a → Put m n r q b → Put n o q e c → Put l o at e (a ++ (b ++ c))
  put_three {m} {n} {o} {r} {q} {e} p s t = put_then l at a (b ++ c) fits p (put_then m r b c (fits_next l at a (b ++ c) fits p) s t)
