-- What writing a group and reading it gives, and the other way round. Upper crates rest on these and look into no group.
use Rattle.std.proofs.Common.{Err}
use Prim.Native.Nat.{ℕ, zero, suc, ◌*◌, ◌/◌, ◌%◌, ◌<◌, ◌≤◌}
use mathlib.Core.Path.{◌≡◌, refl, ◌∙◌}
use mathlib.Core.Bool.{Bool, true, false, cond}
use mathlib.Core.List.{List, [], ◌∷◌}
use native.Mathlib.Omega.{arith}
use borrow.Author.Tests.{lt-ltb, le-leb, eq-eqb, ne_eqb, eqb-false}
use lib.ListN.{length, get_or, set}
use lib.Seq.{get_or-set_same, get_or-set_other}
use Rattle.octets.specs.Octet.{Octets, field, bit}
use Rattle.octets.proofs.All.{all_nil, all_cons}
use Rattle.octets.proofs.Choice.{by}
use Rattle.octets.proofs.Octet.{octet-same}
use Rattle.address.specs.declared.Address.{Address}
use Rattle.address.specs.Address.{low, encodable, PlainAddress}
use Rattle.address.proofs.Laws.{encodable_is, plain_ssid, plain_reserved, plain-character, six_list}
use Rattle.octets.specs.Outcome.{number_by}
use Rattle.group.specs.declared.GroupError.TheVariants.{NotEncodable}
use Rattle.group.specs.Group.{address_of, mark_of, mark_set, octet_at, ssid_octet, group_of, group_number_of, write_group}

-- a written group has seven octets
pub group-length : (a : Address) (m e : Bool) → length (group_of a m e) ≡ 7
unfolding group_of
group-length a m e = refl

-- and they are these
pub group_is : (a : Address) (m e : Bool)
    → group_of a m e
    ≡ octet_at a.callsign 0 ∷ octet_at a.callsign 1 ∷ octet_at a.callsign 2 ∷ octet_at a.callsign 3
    ∷ octet_at a.callsign 4 ∷ octet_at a.callsign 5 ∷ ssid_octet a.ssid a.reserved m e ∷ []
unfolding group_of
group_is a m e = refl

-- the fields of the seventh octet: each is what was given, whatever the others are
ssid-back : (m e : Bool) (s r : ℕ) → s ≤ 15 → field 1 4 (ssid_octet s r m e) ≡ s
unfolding ssid_octet
ssid-back true true s r h = omega arith
ssid-back true false s r h = omega arith
ssid-back false true s r h = omega arith
ssid-back false false s r h = omega arith

reserved-back : (m e : Bool) (s r : ℕ) → r ≤ 3 → field 5 2 (ssid_octet s r m e) ≡ r
unfolding ssid_octet
reserved-back true true s r h = omega arith
reserved-back true false s r h = omega arith
reserved-back false true s r h = omega arith
reserved-back false false s r h = omega arith

mark-back : (m e : Bool) (s r : ℕ) → bit 7 (ssid_octet s r m e) ≡ m
unfolding ssid_octet
mark-back true true s r = eq-eqb (field 7 1 (ssid_octet s r true true)) 1 (omega arith)
mark-back true false s r = eq-eqb (field 7 1 (ssid_octet s r true false)) 1 (omega arith)
mark-back false true s r = ne_eqb (field 7 1 (ssid_octet s r false true)) 1 (λ z. omega arith)
mark-back false false s r = ne_eqb (field 7 1 (ssid_octet s r false false)) 1 (λ z. omega arith)

end_back : (m e : Bool) (s r : ℕ) → bit 0 (ssid_octet s r m e) ≡ e
unfolding ssid_octet
end_back true true s r = eq-eqb (field 0 1 (ssid_octet s r true true)) 1 (omega arith)
end_back true false s r = ne_eqb (field 0 1 (ssid_octet s r true false)) 1 (λ z. omega arith)
end_back false true s r = eq-eqb (field 0 1 (ssid_octet s r false true)) 1 (omega arith)
end_back false false s r = ne_eqb (field 0 1 (ssid_octet s r false false)) 1 (λ z. omega arith)

ssid_below : (m e : Bool) (s r : ℕ) → ssid_octet s r m e < 256
unfolding ssid_octet
ssid_below true true s r = omega arith
ssid_below true false s r = omega arith
ssid_below false true s r = omega arith
ssid_below false false s r = omega arith

halved : (c : ℕ) → c < 128 → c * 2 % 256 / 2 ≡ c
halved c h = omega arith

-- reading a written group gives the address back
pub read-written : (a : Address) (m e : Bool) → PlainAddress a → address_of (group_of a m e) ≡ a
unfolding address_of group_of
read-written a m e p =
    simp (
      halved _ (plain-character a p 0 (omega arith)),
      halved _ (plain-character a p 1 (omega arith)),
      halved _ (plain-character a p 2 (omega arith)),
      halved _ (plain-character a p 3 (omega arith)),
      halved _ (plain-character a p 4 (omega arith)),
      halved _ (plain-character a p 5 (omega arith)),
      ssid-back m e a.ssid a.reserved (plain_ssid a p),
      reserved-back m e a.ssid a.reserved (plain_reserved a p),
      six_list 0 a.callsign p.six,
    )

-- and the mark
pub mark-written : (a : Address) (m e : Bool) → mark_of (group_of a m e) ≡ m
unfolding mark_of group_of
mark-written a m e = mark-back m e a.ssid a.reserved

even_octet : (c : ℕ) → bit 0 (c * 2 % 256) ≡ false
even_octet c = ne_eqb (field 0 1 (c * 2 % 256)) 1 (λ z. omega arith)

-- the first six octets of a written group are even
pub group_even : (a : Address) (m e : Bool) (k : ℕ) → k < 6 → bit 0 (get_or (group_of a m e) k 0) ≡ false
unfolding group_of
group_even a m e zero h = even_octet (get_or a.callsign 0 0)
group_even a m e (suc zero) h = even_octet (get_or a.callsign 1 0)
group_even a m e (suc (suc zero)) h = even_octet (get_or a.callsign 2 0)
group_even a m e (suc (suc (suc zero))) h = even_octet (get_or a.callsign 3 0)
group_even a m e (suc (suc (suc (suc zero)))) h = even_octet (get_or a.callsign 4 0)
group_even a m e (suc (suc (suc (suc (suc zero))))) h = even_octet (get_or a.callsign 5 0)
group_even a m e (suc (suc (suc (suc (suc (suc k)))))) h = absurd (omega arith)

-- its seventh has exactly the end bit asked for
pub group_end : (a : Address) (m e : Bool) → bit 0 (get_or (group_of a m e) 6 0) ≡ e
unfolding group_of
group_end a m e = end_back m e a.ssid a.reserved

-- what is written is octets
pub group-octets : (a : Address) (m e : Bool) → PlainAddress a → Octets (group_of a m e)
unfolding group_of
group-octets a m e p zero = omega arith
group-octets a m e p (suc zero) = omega arith
group-octets a m e p (suc (suc zero)) = omega arith
group-octets a m e p (suc (suc (suc zero))) = omega arith
group-octets a m e p (suc (suc (suc (suc zero)))) = omega arith
group-octets a m e p (suc (suc (suc (suc (suc zero))))) = omega arith
group-octets a m e p (suc (suc (suc (suc (suc (suc zero)))))) = ssid_below m e a.ssid a.reserved
group-octets a m e p (suc (suc (suc (suc (suc (suc (suc k))))))) = omega arith

half-low : (b : ℕ) → b < 256 → low (b / 2) ≡ true
half-low b h = lt-ltb (b / 2) 128 (omega arith)

-- what is read can be written
pub read_plain : (g : List ℕ) → Octets g → PlainAddress (address_of g)
unfolding address_of
read_plain g o = record {
  six = refl;
  writable = encodable_is (address_of g) ∙ simp (
    all_cons,
    all_nil,
    le-leb (field 1 4 (get_or g 6 0)) 15 (omega arith),
    le-leb (field 5 2 (get_or g 6 0)) 3 (omega arith),
    half-low _ (o 0),
    half-low _ (o 1),
    half-low _ (o 2),
    half-low _ (o 3),
    half-low _ (o 4),
    half-low _ (o 5),
  );
}

-- what is read from seven octets and written again: their last takes the low four bits of an SSID and the low two of the reserved bits
ssid-low : (b : ℕ) (m e : Bool) → ssid_octet (field 1 4 b) (field 5 2 b) m e ≡ ssid_octet (b / 2) (b / 32) m e
unfolding ssid_octet
ssid-low b m e =
    let s : field 1 4 b % 16 ≡ b / 2 % 16 = omega arith in
    let r : field 5 2 b % 4 ≡ b / 32 % 4 = omega arith in
    rw (s, r) refl

pub group-again : (a b c d e f g : ℕ) (m x : Bool)
    → group_of (address_of (a ∷ b ∷ c ∷ d ∷ e ∷ f ∷ g ∷ [])) m x
    ≡ a / 2 * 2 % 256 ∷ b / 2 * 2 % 256 ∷ c / 2 * 2 % 256 ∷ d / 2 * 2 % 256 ∷ e / 2 * 2 % 256 ∷ f / 2 * 2 % 256 ∷ ssid_octet (g / 2) (g / 32) m x ∷ []
unfolding address_of group_of
group-again a b c d e f g m x = simp ssid-low

doubled : (c : ℕ) → c < 256 → bit 0 c ≡ false → c / 2 * 2 % 256 ≡ c
doubled c h e = omega (arith, eqb-false (field 0 1 c) 1 e)

ssid-again : (b : ℕ) → b < 256 → ssid_octet (field 1 4 b) (field 5 2 b) (bit 7 b) (bit 0 b) ≡ b
unfolding ssid_octet
ssid-again b h = octet-same (λ n. ssid_octet (field 1 4 n) (field 5 2 n) (bit 7 n) (bit 0 n)) (λ n. n) tt b h

-- writing a read group gives the octets back, where the low bits of its characters are clear
pub written_read : (g : List ℕ) → length g ≡ 7 → Octets g → ((k : ℕ) → k < 6 → bit 0 (get_or g k 0) ≡ false)
    → group_of (address_of g) (mark_of g) (bit 0 (get_or g 6 0)) ≡ g
unfolding address_of mark_of group_of
written_read (a ∷ b ∷ c ∷ d ∷ e ∷ f ∷ g ∷ []) s o v =
    simp (
      ssid-again g (o 6),
      doubled a (o 0) (v 0 (omega arith)),
      doubled b (o 1) (v 1 (omega arith)),
      doubled c (o 2) (v 2 (omega arith)),
      doubled d (o 3) (v 3 (omega arith)),
      doubled e (o 4) (v 4 (omega arith)),
      doubled f (o 5) (v 5 (omega arith)),
    )
written_read [] s o v = absurd (omega arith)
written_read (a ∷ []) s o v = absurd (omega arith)
written_read (a ∷ b ∷ []) s o v = absurd (omega arith)
written_read (a ∷ b ∷ c ∷ []) s o v = absurd (omega arith)
written_read (a ∷ b ∷ c ∷ d ∷ []) s o v = absurd (omega arith)
written_read (a ∷ b ∷ c ∷ d ∷ e ∷ []) s o v = absurd (omega arith)
written_read (a ∷ b ∷ c ∷ d ∷ e ∷ f ∷ []) s o v = absurd (omega arith)
written_read (a ∷ b ∷ c ∷ d ∷ e ∷ f ∷ g ∷ h ∷ l) s o v = absurd (omega arith)

-- what `to_bytes` gives of an address that cannot be written
pub write-refused : (a : Address) (m e : Bool) → encodable a ≡ false
    → write_group a m e ≡ Err NotEncodable
unfolding write_group
write-refused a m e t = simp t

-- its number is 22 exactly when the address cannot be written
pub group_numbers : (a : Address) (m e : Bool) → number_by group_number_of (write_group a m e) ≡ cond (encodable a) 0 22
unfolding write_group
group_numbers a m e = by (encodable a) (λ t. simp t) (λ t. simp t)

-- the first octet of a group is nonzero where the first character is, and the other way round
pub group_starts : (a : Address) (m e : Bool) → PlainAddress a → 0 < get_or a.callsign 0 0 → 0 < get_or (group_of a m e) 0 0
unfolding group_of
group_starts a m e p h = omega (arith, halved _ (plain-character a p 0 (omega arith)))

pub group-character : (g : List ℕ) → Octets g → bit 0 (get_or g 0 0) ≡ false → 0 < get_or g 0 0 → 0 < get_or (address_of g).callsign 0 0
unfolding address_of
group-character g o e h = omega (arith, eqb-false (field 0 1 (get_or g 0 0)) 1 e)

-- the reserved bits of a read address are those of the group's last octet
pub reserved_last : (g : List ℕ) → (address_of g).reserved ≡ field 5 2 (get_or g 6 0)
unfolding address_of
reserved_last g = refl

-- the mark of a group is that of its last octet
pub mark_last : (g : List ℕ) → mark_of g ≡ mark_set (get_or g 6 0)
unfolding mark_of
mark_last g = refl

-- another seventh octet with the same SSID and reserved bits leaves the address as it was
pub address_kept : (g : List ℕ) (b : ℕ) → 6 < length g → field 1 6 b ≡ field 1 6 (get_or g 6 0) → address_of (set g 6 b) ≡ address_of g
unfolding address_of
address_kept g b h e =
    let s : field 1 4 b ≡ field 1 4 (get_or g 6 0) = omega (arith, e) in
    let r : field 5 2 b ≡ field 5 2 (get_or g 6 0) = omega (arith, e) in
    simp (
      get_or-set_other g 6 0 b 0 (λ z. omega (arith, z)),
      get_or-set_other g 6 1 b 0 (λ z. omega (arith, z)),
      get_or-set_other g 6 2 b 0 (λ z. omega (arith, z)),
      get_or-set_other g 6 3 b 0 (λ z. omega (arith, z)),
      get_or-set_other g 6 4 b 0 (λ z. omega (arith, z)),
      get_or-set_other g 6 5 b 0 (λ z. omega (arith, z)),
      get_or-set_same g 6 b 0 h,
      s,
      r,
    )
