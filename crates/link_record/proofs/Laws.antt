-- The refusals of a record in their order, and what is known of one that takes a frame.
use Prim.Native.Nat.{◌+◌, ◌≤◌, ◌<◌}
use mathlib.Core.Path.{◌≡◌, refl, ◌∙◌}
use mathlib.Core.Bool.{Bool, true, false, false≢true, ◌||◌}
use native.Mathlib.Omega.{arith}
use borrow.Author.Tests.{ltb-false, lt-ltb, le-ltb, leb-false, le-leb, lt-leb}
use lib.Dec.{ltb, leb}
use Rattle.octets.proofs.Choice.{by, neither}
use Rattle.address.specs.declared.Address.{Address}
use Rattle.hops.specs.Station.{same_station}
use Rattle.link_record.specs.Record.{LinkAnswer, number_of, most, fresh, counted, unsound, stations_encodable, refusal}
use Rattle.link_record.specs.declared.Link.{Link}
use Rattle.link_record.specs.declared.LinkError.TheVariants.{NotEncodable, EqualStations, Unsound, Full}
use Rattle.std.proofs.Common.{Ok, Err}

-- whether a frame is taken
abbrev pub takes : LinkAnswer → Bool
takes (Ok u) = true
takes (Err e) = false

module _ (l : Link) where
  pub refused_station : stations_encodable l ≡ false → refusal l ≡ Err NotEncodable
  unfolding refusal
  refused_station e = rw e refl

  module _ (e : stations_encodable l ≡ true) where
    pub refused_equal : same_station l.a l.b ≡ true → refusal l ≡ Err EqualStations
    unfolding refusal
    refused_equal h = rw (e, h) refl

    module _ (d : same_station l.a l.b ≡ false) where
      pub refused-unsound : unsound l ≡ true → refusal l ≡ Err Unsound
      unfolding refusal
      refused-unsound h = rw (e, d, h) refl

      module _ (u : unsound l ≡ false) where
        pub refused_full : most ≤ l.offered → refusal l ≡ Err Full
        unfolding refusal
        refused_full h = rw (e, d, u, le-leb most l.offered h) refl

        pub takes_one : l.offered < most → refusal l ≡ Ok tt
        unfolding refusal
        takes_one h = rw (e, d, u, lt-leb most l.offered h) refl

-- the tests of a sound record
pub unsound_is : (l : Link) → unsound l ≡ (ltb l.offered (l.in_order + l.repeated + l.gaps + l.outside) || (ltb 7 l.expected_from_a || ltb 7 l.expected_from_b))
unfolding unsound counted
unsound_is l = refl

-- what makes a record unsound, one test after the other
module _ (l : Link) where
  pub over-offered : l.offered < counted l → unsound l ≡ true
  unfolding unsound
  over-offered h = rw (lt-ltb l.offered (counted l) h) refl

  module _ (c : counted l ≤ l.offered) where
    pub over_from_a : 7 < l.expected_from_a → unsound l ≡ true
    unfolding unsound
    over_from_a h = rw (le-ltb l.offered (counted l) c, lt-ltb 7 l.expected_from_a h) refl

    pub from_b : l.expected_from_a ≤ 7 → unsound l ≡ ltb 7 l.expected_from_b
    unfolding unsound
    from_b h = rw (le-ltb l.offered (counted l) c, le-ltb 7 l.expected_from_a h) refl

-- a sound record
pub record Sound (l : Link) : Type 0 where
  pub counts : counted l ≤ l.offered
  pub from_a : l.expected_from_a ≤ 7
  pub from_b : l.expected_from_b ≤ 7

pub sound : (l : Link) → unsound l ≡ false → Sound l
unfolding unsound
sound l e =
    let first = neither (ltb l.offered (counted l)) _ e in
    let then = neither (ltb 7 l.expected_from_a) _ first.1 in
    record { counts = ltb-false l.offered (counted l) first.0; from_a = ltb-false 7 l.expected_from_a then.0; from_b = ltb-false 7 l.expected_from_b then.1 }

pub not-unsound : (l : Link) → Sound l → unsound l ≡ false
not-unsound l s = from_b l s.counts s.from_a ∙ le-ltb 7 l.expected_from_b s.from_b

-- the counts of a record are its four
pub counted_is : (l : Link) → counted l ≡ l.in_order + l.repeated + l.gaps + l.outside
unfolding counted
counted_is l = refl

-- a fresh record has the two stations, and is sound
module _ (a b : Address) where
  pub fresh_a : (fresh a b).a ≡ a
  unfolding fresh
  fresh_a = refl

  pub fresh_b : (fresh a b).b ≡ b
  unfolding fresh
  fresh_b = refl

  pub fresh-offered : (fresh a b).offered ≡ 0
  unfolding fresh
  fresh-offered = refl

  pub fresh-counted : counted (fresh a b) ≡ 0
  unfolding fresh counted
  fresh-counted = refl

  pub fresh_sound : Sound (fresh a b)
  unfolding fresh counted
  fresh_sound = record { counts = omega arith; from_a = omega arith; from_b = omega arith }

-- a record that takes a frame
pub record Takes (l : Link) : Type 0 where
  pub stations : stations_encodable l ≡ true
  pub differ : same_station l.a l.b ≡ false
  pub is_sound : unsound l ≡ false
  pub room : l.offered < most

pub taking : (l : Link) → takes (refusal l) ≡ true → Takes l
unfolding refusal
taking l e =
    by (stations_encodable l)
    (λ s.
    by (same_station l.a l.b)
    (λ d. absurd (false≢true (rw (s, d) at e)))
    (λ d.
    by (unsound l)
    (λ u. absurd (false≢true (rw (s, d, u) at e)))
    (λ u.
    by (leb most l.offered)
    (λ f. absurd (false≢true (rw (s, d, u, f) at e)))
    (λ f. record { stations = s; differ = d; is_sound = u; room = leb-false most l.offered f }))))
    (λ s. absurd (false≢true (rw s at e)))

-- a sound record is never 73
pub sound-number : (l : Link) → unsound l ≡ false → number_of (refusal l) ≡ 73 → ⊥
unfolding refusal
sound-number l u e =
    by (stations_encodable l)
    (λ s.
    by (same_station l.a l.b)
    (λ d. omega (arith, (rw (s, d) at e)))
    (λ d.
    by (leb most l.offered)
    (λ f. omega (arith, (rw (s, d, u, f) at e)))
    (λ f. omega (arith, (rw (s, d, u, f) at e)))))
    (λ s. omega (arith, (rw s at e)))
