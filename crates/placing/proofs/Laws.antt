-- What writing a group into lent octets gives. Upper crates rest on these.
use Rattle.std.proofs.Common.{Ok}
use Prim.Native.Nat.{ℕ, ◌+◌, ◌≤◌, ◌<◌}
use mathlib.Core.Path.{◌≡◌}
use mathlib.Core.Bool.{Bool, true, cond}
use mathlib.Core.List.{List, []}
use borrow.Author.Tests.{leb-false, le-leb, lt-leb}
use lib.Dec.{leb}
use lib.ListN.{length, take, drop}
use Rattle.octets.specs.Splice.{splice}
use Rattle.octets.proofs.Choice.{by}
use Rattle.octets.proofs.Splice.{splice_out, splice_none}
use Rattle.address.specs.Address.{encodable}
use Rattle.group.specs.Group.{address_of, group_of}
use Rattle.address.specs.declared.Address.{Address}
use Rattle.group.proofs.Laws.{group-length}
use Rattle.octets.specs.Outcome.{number_by}
use Rattle.placing.specs.Put.{put_number, put_answer, put_octets, respelled}

-- 22 exactly when the address cannot be written, and else 24 exactly when there are not seven octets from `at` on
pub put_numbers : (a : Address) (at room : ℕ) → number_by put_number (put_answer a at room) ≡ cond (encodable a) (cond (leb (at + 7) room) 0 24) 22
unfolding put_answer
put_numbers a at room = by (encodable a) (λ t. by (leb (at + 7) room) (λ q. simp (t, q)) (λ q. simp (t, q))) (λ t. simp t)

-- and either leaves them alone
pub put_refused : (l : List ℕ) (at : ℕ) (a : Address) (m e : Bool) → (put_answer a at (length l) ≡ Ok tt → ⊥) → splice l at (put_octets a m e) ≡ l
unfolding put_answer put_octets
put_refused l at a m e n =
    by (encodable a)
    (λ t. by (leb (at + 7) (length l))
    (λ q. absurd (n (simp (t, q))))
    (λ q. rw t (splice_out l at (group_of a m e) (rw group-length (leb-false _ _ q)))))
    (λ t. rw t (splice_none l at))

-- of an address that can be written it is the group
pub put_taken : (a : Address) (m e : Bool) → encodable a ≡ true → put_octets a m e ≡ group_of a m e
unfolding put_octets
put_taken a m e t = simp t

-- what `respell` gives where there are seven octets, and where there are not
pub respelled_in : (s : List ℕ) (from : ℕ) (m e : Bool) → from + 7 ≤ length s → respelled s from m e ≡ group_of (address_of (take 7 (drop from s))) m e
unfolding respelled
respelled_in s from m e h = simp (le-leb _ _ h)

pub respelled_out : (s : List ℕ) (from : ℕ) (m e : Bool) → length s < from + 7 → respelled s from m e ≡ []
unfolding respelled
respelled_out s from m e h = simp (lt-leb _ _ h)
