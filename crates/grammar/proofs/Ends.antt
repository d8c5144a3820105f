-- The searches for start and end in what a frame spells: nothing odd stands before the last group's seventh octet.
use Prim.Native.Nat.{ℕ, zero, suc, ◌+◌, ◌*◌, ◌<◌}
use mathlib.Core.Path.{◌≡◌, refl, ap, ◌∙◌}
use mathlib.Core.Bool.{Bool, true, false, not}
use mathlib.Core.List.{List, ◌++◌, append_assoc}
use mathlib.Core.Logic.{⊎_elim}
use native.Mathlib.Nat.{eq-or-lt_of_le, le_of_suc-le-suc}
use native.Mathlib.Omega.{arith}
use borrow.Author.Tests.{ne_eqb, eq-eqb}
use lib.Dec.{eqb, eqb-suc-zero}
use lib.ListN.{length-append, get_or, get_or-append}
use Rattle.octets.specs.Octet.{bit}
use Rattle.octets.proofs.First.{first_past, first_is}
use Rattle.address.specs.Address.{PlainAddress}
use Rattle.group.specs.Group.{group_of}
use Rattle.address.specs.declared.Address.{Address}
use Rattle.group.proofs.Laws.{group-length, group_even, group_end, group_starts}
use Rattle.decode.specs.Read.{nonzero, start_of, end_of}
use Rattle.frame.specs.Spell.{groups_of}
use Rattle.frame.specs.declared.RouteEntry.{RouteEntry}

module _ (a : Address) (m : Bool) (r : List ℕ) where
  -- a group without the end bit is gone past
  pub end-past : end_of (group_of a m false ++ r) ≡ 7 + end_of r
  end-past =
      first_past (bit 0) (group_of a m false) r 0 (λ j h. low j (rw group-length at h)) ∙ ap (λ (n : ℕ). n + end_of r) (group-length a m false)
    where
      low : (j : ℕ) → j < 7 → bit 0 (get_or (group_of a m false) j 0) ≡ false
      low j h = ⊎_elim
          (λ (e : j ≡ 6). rw e (group_end a m false))
          (λ (l : j < 6). group_even a m false j l)
          (eq-or-lt_of_le (le_of_suc-le-suc h))

  -- a group with it ends there
  pub end_here : end_of (group_of a m true ++ r) ≡ 6
  end_here =
      first_is (bit 0) (group_of a m true ++ r) 0 6 (rw (length-append, group-length) (omega arith))
      (rw (at 6 (omega arith)) (group_end a m true))
      (λ j h. rw (at j (omega arith)) (group_even a m true j h))
    where
      at : (j : ℕ) → j < 7 → get_or (group_of a m true ++ r) j 0 ≡ get_or (group_of a m true) j 0
      at j h = get_or-append (group_of a m true) r 0 j (rw group-length h)

  -- a frame starts at once where its first character is not 0
  pub start_here : (e : Bool) → PlainAddress a → 0 < get_or a.callsign 0 0 → start_of (group_of a m e ++ r) ≡ 0
  start_here e p h =
      first_is nonzero (group_of a m e ++ r) 0 0 (rw (length-append, group-length) (omega arith))
      (rw (get_or-append (group_of a m e) r 0 0 (rw group-length (omega arith)))
      (ap not (ne_eqb (get_or (group_of a m e) 0 0) 0 (λ z. omega (arith, group_starts a m e p h)))))
      (λ j l. absurd (omega arith))

groups-past : (route : List RouteEntry) (total n : ℕ) (r : List ℕ) → n < total → end_of (groups_of route total n ++ r) ≡ 7 * n + end_of r
unfolding groups_of
groups-past route total zero r h = omega arith
groups-past route total (suc n) r h =
    rw (append_assoc, groups-past route total n _ (omega arith), ne_eqb (suc n) total (λ e. omega arith), end-past) (omega arith)

-- the end bit stands on the last group alone: the source where there is no repeater, else the last repeater
pub end_route : (a : Address) (m : Bool) (route : List RouteEntry) (n : ℕ) (r : List ℕ)
    → end_of (group_of a m (eqb n 0) ++ (groups_of route n n ++ r)) ≡ 6 + 7 * n
unfolding groups_of
end_route a m route zero r = end_here a m _
end_route a m route (suc n) r =
    rw (eqb-suc-zero, end-past, append_assoc, groups-past route (suc n) n _ (omega arith), eq-eqb (suc n) (suc n) refl, end_here) (omega arith)
