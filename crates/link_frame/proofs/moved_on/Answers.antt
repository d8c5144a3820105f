-- The next number of that side, and its memory. It is taken modulo 8 before one is added, so that nothing overflows.
use Rattle.std.proofs.Common.{ℕ, ◌+◌, ◌%◌, ◌≡◌, refl, arith}
use Rattle.link_frame.proofs.moved_on.Goals as goal

next : (e : ℕ) → (e % 8 + 1) % 8 ≡ (e + 1) % 8
next e = omega arith

pub returns-in-A : goal.returns-in-A
returns-in-A c = rw (c.expected_from.ensures, c.in-A.is, next) refl

pub returns-in-B : goal.returns-in-B
returns-in-B c = rw (c.expected_from.ensures, c.in-B.is, next) refl
