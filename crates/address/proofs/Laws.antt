-- What can be written, what of an address that can be holds of its parts, and NOCALL.
use Prim.Native.Nat.{ℕ, ◌<◌, ◌≤◌}
use mathlib.Core.Path.{◌≡◌, refl}
use mathlib.Core.Bool.{true, ◌&&◌}
use mathlib.Core.List.{List, [], ◌∷◌}
use native.Mathlib.Omega.{arith}
use borrow.Author.Tests.{ltb-true, leb-true}
use lib.Dec.{leb}
use lib.ListN.{length, get_or}
use Rattle.octets.specs.All.{all}
use Rattle.octets.proofs.All.{all_nil, all_cons, all_at}
use Rattle.octets.proofs.Choice.{both}
use Rattle.address.specs.declared.Address.{Address}
use Rattle.address.specs.Address.{low, reserved_ones, no_call, encodable, PlainAddress}

-- what can be written, as three tests
pub encodable_is : (a : Address) → encodable a ≡ (leb a.ssid 15 && (leb a.reserved 3 && all low a.callsign))
unfolding encodable
encodable_is a = refl

-- what can be written: an SSID up to 15
pub plain_ssid : (a : Address) → PlainAddress a → a.ssid ≤ 15
unfolding encodable
plain_ssid a p = leb-true _ 15 (both (leb a.ssid 15) _ p.writable).0

after_ssid : (a : Address) → PlainAddress a → (leb a.reserved 3 && all low a.callsign) ≡ true
unfolding encodable
after_ssid a p = (both (leb a.ssid 15) _ p.writable).1

-- reserved bits up to 3
pub plain_reserved : (a : Address) → PlainAddress a → a.reserved ≤ 3
plain_reserved a p = leb-true _ 3 (both (leb a.reserved 3) _ (after_ssid a p)).0

-- and characters below 128
pub plain-character : (a : Address) → PlainAddress a → (k : ℕ) → k < 6 → get_or a.callsign k 0 < 128
plain-character a p k h =
    ltb-true _ 128 (all_at low a.callsign 0 k (omega (arith, p.six)) (both (leb a.reserved 3) _ (after_ssid a p)).1)

-- a list of six is its six elements
pub six_list : (d : ℕ) (l : List ℕ) → length l ≡ 6 → get_or l 0 d ∷ get_or l 1 d ∷ get_or l 2 d ∷ get_or l 3 d ∷ get_or l 4 d ∷ get_or l 5 d ∷ [] ≡ l
six_list z (a ∷ b ∷ c ∷ d ∷ e ∷ f ∷ []) h = refl
six_list z [] h = absurd (omega arith)
six_list z (a ∷ []) h = absurd (omega arith)
six_list z (a ∷ b ∷ []) h = absurd (omega arith)
six_list z (a ∷ b ∷ c ∷ []) h = absurd (omega arith)
six_list z (a ∷ b ∷ c ∷ d ∷ []) h = absurd (omega arith)
six_list z (a ∷ b ∷ c ∷ d ∷ e ∷ []) h = absurd (omega arith)
six_list z (a ∷ b ∷ c ∷ d ∷ e ∷ f ∷ g ∷ l) h = absurd (omega arith)

-- NOCALL can be written, and its reserved bits are ones
pub no_call-plain : PlainAddress no_call
unfolding no_call encodable
no_call-plain = record { six = refl; writable = simp (all_cons, all_nil) }

pub no_call_ones : no_call.reserved ≡ reserved_ones
unfolding no_call
no_call_ones = refl
