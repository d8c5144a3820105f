-- Laws of a flat record: a case past the last of its list.
use Prim.Native.Nat.{ℕ, zero, suc, ◌≤◌}
use mathlib.Core.Path.{◌≡◌}
use native.Mathlib.Omega.{arith}
use lib.ListN.{get_or-eq_default}
use Rattle.protocol.specs.declared.ProtocolIdentifier.{ProtocolIdentifier}
use Rattle.protocol.specs.declared.ProtocolIdentifier.TheVariants.{Unknown}
use Rattle.content.specs.declared.FrameReject.{FrameReject}
use Rattle.content.specs.declared.FrameContent.TheVariants.{UnknownContent}
use Rattle.frame.specs.declared.Mark.TheVariants.{Absent}
use Rattle.flat.specs.Given.{marks, mark_from, pids, pid_from, kinds, content_with}

-- what a match knows past its first n numbers
abbrev pub Past : ℕ → ℕ → Type 0
Past k zero = Unit {0}
Past k (suc n) = Past k n × (k ≡ n → ⊥)

past : (k n : ℕ) → Past k n → n ≤ k
past k zero h = omega arith
past k (suc n) h =
    let l : n ≤ k = past k n h.0 in
    let e : k ≡ n → ⊥ = h.1 in
    omega arith

pub mark-past : (m : ℕ) → Past m 2 → mark_from m ≡ Absent
unfolding mark_from
mark-past m h = get_or-eq_default marks Absent (past m 2 h)

pub pid-past : (case octet : ℕ) → Past case 15 → pid_from case octet ≡ Unknown octet
unfolding pid_from
pid-past case octet h = get_or-eq_default (pids octet) (Unknown octet) (past case 15 h)

pub content-past : (k : ℕ) (pid : ProtocolIdentifier) (f : FrameReject) → Past k 14 → content_with k pid f ≡ UnknownContent
unfolding content_with
content-past k pid f h = get_or-eq_default (kinds pid f) UnknownContent (past k 14 h)
