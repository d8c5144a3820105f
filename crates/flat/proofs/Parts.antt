-- Laws of the flat form: how long its parts are, and that the parts written one after the other are the whole.
use Prim.Native.Nat.{ℕ, zero, suc, ◌+◌, ◌*◌, ◌≤◌, ◌<◌}
use mathlib.Core.Path.{◌≡◌, refl, ap, sym, ◌∙◌}
use mathlib.Core.Bool.{Bool, true, false}
use mathlib.Core.List.{List, [], ◌∷◌, ◌++◌, append_assoc}
use native.Mathlib.Numerals.{add-one}
use native.Mathlib.Omega.{arith}
use mir.Val.{bool_byte}
use lib.ListN.{length, length-append}
use Rattle.octets.specs.Octet.{flag}
use Rattle.octets.specs.Splice.{splice}
use Rattle.octets.proofs.Splice.{splice-then, splice_out}
use Rattle.content.specs.declared.FrameContent.{FrameContent}
use Rattle.content.specs.declared.FrameContent.TheVariants as kind
use Rattle.frame.specs.declared.RouteEntry.{RouteEntry}
use Rattle.frame.specs.declared.Ax25Frame.{Ax25Frame}
use Rattle.frame.specs.Spell.{repeater_at}
use Rattle.flat.specs.Laid.{address_flat, entry_flat, route_flat, content_flat, rest_flat, flat_of}

-- the code's cast of a flag
pub flag_byte : (on : Bool) → bool_byte on ≡ flag 0 on
flag_byte true = refl
flag_byte false = refl

pub route-length : (route : List RouteEntry) (n : ℕ) → length (route_flat route n) ≡ 9 * n
unfolding route_flat
route-length route zero = refl
route-length route (suc n) = length-append (route_flat route n) _ ∙ rw (route-length route n) (omega arith)

-- one place more, as a loop writes it
pub route-more : (l : List ℕ) (at : ℕ) (route : List RouteEntry) (i : ℕ) → at + 9 * i + 9 ≤ length l
    → splice (splice l at (route_flat route i)) (at + 9 * i) (entry_flat (repeater_at route i)) ≡ splice l at (route_flat route (i + 1))
unfolding route_flat
route-more l at route i h =
    rw add-one (splice-then l at (9 * i) (route_flat route i) (entry_flat (repeater_at route i)) (route-length route i) h)

pub content-length : (k : FrameContent) → length (content_flat k) ≡ 12
content-length (kind.Information k) = refl
content-length (kind.ReceiveReady k) = refl
content-length (kind.ReceiveNotReady k) = refl
content-length (kind.Reject k) = refl
content-length (kind.SelectiveReject k) = refl
content-length (kind.SetAsynchronousBalancedMode k) = refl
content-length (kind.SetAsynchronousBalancedModeExtended k) = refl
content-length (kind.Disconnect k) = refl
content-length (kind.DisconnectedMode k) = refl
content-length (kind.UnnumberedAcknowledge k) = refl
content-length (kind.FrameReject k) = refl
content-length (kind.UnnumberedInformation k) = refl
content-length (kind.ExchangeIdentification k) = refl
content-length (kind.Test k) = refl
content-length kind.UnknownContent = refl

-- two octets, then the content
pub rest_put : (l : List ℕ) (a b : ℕ) (k : FrameContent) → 102 ≤ length l
    → splice (splice l 88 (a ∷ b ∷ [])) 90 (content_flat k) ≡ splice l 88 (a ∷ b ∷ content_flat k)
rest_put l a b k h = splice-then l 88 2 (a ∷ b ∷ []) (content_flat k) refl (rw (content-length k) h)

rest-length : (f : Ax25Frame) → length (rest_flat f) ≡ 14
rest-length f = omega (arith, content-length f.content)

-- destination, source and route
front_length : (f : Ax25Frame) → length ((address_flat f.destination ++ address_flat f.source) ++ route_flat f.route 8) ≡ 88
front_length f =
    length-append (address_flat f.destination ++ address_flat f.source) (route_flat f.route 8)
    ∙ rw (route-length f.route 8) refl

-- destination, source, route and the rest
pub flat-put : (l : List ℕ) (f : Ax25Frame) → 102 ≤ length l
    → splice (splice (splice (splice l 0 (address_flat f.destination)) 8 (address_flat f.source)) 16 (route_flat f.route 8)) 88 (rest_flat f)
    ≡ splice l 0 (flat_of f)
unfolding flat_of
flat-put l f h =
    let d : List ℕ = address_flat f.destination in
    let s : List ℕ = address_flat f.source in
    let r : List ℕ = route_flat f.route 8 in
    let n : length r ≡ 72 = route-length f.route 8 in
    let m : length (rest_flat f) ≡ 14 = rest-length f in
    rw (
      splice-then l 0 8 d s refl (omega arith),
      splice-then l 0 16 (d ++ s) r refl (omega arith),
      splice-then l 0 88 ((d ++ s) ++ r) (rest_flat f) (front_length f) (omega arith),
    )
    (simp append_assoc)

flat-length : (f : Ax25Frame) → length (flat_of f) ≡ 102
unfolding flat_of
flat-length f =
    let d : List ℕ = address_flat f.destination in
    let s : List ℕ = address_flat f.source in
    let r : List ℕ = route_flat f.route 8 in
    ap length (sym (append_assoc (d ++ s) r (rest_flat f)))
    ∙ length-append ((d ++ s) ++ r) (rest_flat f)
    ∙ rw (front_length f, rest-length f) refl

-- a frame that does not fit
pub flat_out : (l : List ℕ) (f : Ax25Frame) → length l < 102 → splice l 0 (flat_of f) ≡ l
flat_out l f h = splice_out l 0 (flat_of f) (rw (flat-length f) (omega arith))
