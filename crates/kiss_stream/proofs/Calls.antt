-- What every call takes, and leaves.
use Prim.Native.Nat.{ℕ, suc, ◌≤◌}
use mathlib.Core.List.{List, [], ◌∷◌}
use native.Mathlib.Omega.{arith}
use lib.ListN.{length}
use Rattle.octets.proofs.Choice.{either}
use Rattle.kiss_state.specs.declared.Stream.{Stream}
use Rattle.kiss_state.specs.State.{room, settled}
use Rattle.kiss_state.proofs.Laws.{Sound, settled_sound}
use Rattle.kiss_octet.specs.Step.{step_of, gives}
use Rattle.kiss_octet.proofs.Laws.{step_keeps}
use Rattle.kiss_stream.specs.Feed.{Called, taken_from, feed_of}

pub taken_sound : (l : List ℕ) (s : Stream) → Sound s.head → Sound (taken_from s l).stream.head
unfolding taken_from
taken_sound [] s k = k
taken_sound (b ∷ l) s k =
    let n = step_keeps s b k in
    either (λ (c : Called). Sound c.stream.head) (gives s b) (λ _. n) (λ _. taken_sound l (step_of s b) n)

-- all calls make such states
pub call_sound : (s : Stream) (l : List ℕ) → Sound (feed_of s l).stream.head
unfolding feed_of
call_sound s l = taken_sound l (settled s) (settled_sound s.head)

-- a call takes no more than there is, and of something at least one octet: so calls use a piece up
taken_some : (s : Stream) (b : ℕ) (l : List ℕ) → 1 ≤ (taken_from s (b ∷ l)).taken
unfolding taken_from
taken_some s b l = either (λ (c : Called). 1 ≤ c.taken) (gives s b) (λ _. omega arith) (λ _. omega arith)

taken-most : (l : List ℕ) (s : Stream) → (taken_from s l).taken ≤ length l
unfolding taken_from
taken-most [] s = omega arith
taken-most (b ∷ l) s =
    either (λ (c : Called). c.taken ≤ suc (length l)) (gives s b) (λ _. omega arith) (λ _. omega (arith, taken-most l (step_of s b)))

pub call_some : (s : Stream) (l : List ℕ) → 1 ≤ length l → 1 ≤ (feed_of s l).taken
unfolding feed_of
call_some s [] n = absurd (omega arith)
call_some s (b ∷ l) n = taken_some (settled s) b l

pub call-most : (s : Stream) (l : List ℕ) → (feed_of s l).taken ≤ length l
unfolding feed_of
call-most s l = taken-most l (settled s)

-- the data of a packet that is given out fits the array
given-short : (l : List ℕ) (s : Stream) → (taken_from s l).packet.length ≤ (taken_from s l).stream.head.length
unfolding taken_from
given-short [] s = omega arith
given-short (b ∷ l) s =
    either (λ (c : Called). c.packet.length ≤ c.stream.head.length) (gives s b) (λ _. omega arith) (λ _. given-short l (step_of s b))

pub call-short : (s : Stream) (l : List ℕ) → (feed_of s l).packet.length ≤ room
unfolding feed_of
call-short s l = omega (arith, given-short l (settled s), (call_sound s l).length_in)
