-- The repeaters' marks in the octets of an accepted input: where they stand, and what an input with another mark is read as.
use Prim.Native.Nat.{ℕ, ◌+◌, ◌-◌, ◌*◌, ◌≤◌, ◌<◌}
use mathlib.Core.Path.{◌≡◌, refl, ap, sym, subst, ◌∙◌}
use mathlib.Core.Bool.{Bool, true}
use mathlib.Core.List.{List}
use native.Mathlib.Omega.{arith}
use borrow.Author.Tests.{ne_eqb, lt-ltb, le-ltb, eqb-true, eqb-false, ltb-true, ltb-false}
use lib.Dec.{eqb, ltb}
use lib.ListN.{length, length-set, length-drop, get_or, set, drop}
use lib.Seq.{get_or-set_same, get_or-set_other, take-set-le, take-set-lt, drop-set-lt, drop-set-add, length-take-le, ext_get_or}
use Rattle.octets.specs.Octet.{field, bit}
use Rattle.octets.proofs.Choice.{by}
use Rattle.octets.proofs.First.{first_passes, first_before, first_is}
use Rattle.octets.proofs.Place.{get_d_part}
use Rattle.group.specs.Group.{address_of, mark_of, mark_set}
use Rattle.group.proofs.Laws.{address_kept, mark_last}
use Rattle.content.specs.Spell.{has_info, front}
use Rattle.control.specs.declared.Mode.{Mode}
use Rattle.content_as_written.proofs.Laws.{content_some}
use Rattle.frame.specs.Spell.{repeater_at, past}
use Rattle.frame.specs.declared.RouteEntry.{RouteEntry}
use Rattle.frame.specs.declared.Ax25Frame.{Ax25Frame}
use Rattle.decode.specs.Answer.{is_accepted}
use Rattle.decode.specs.Read.{start_of, end_of, group_at, parsed_at, entry_at, place_at, route_at, frame_at, accepted_with, with_content, decode_field, decode, info_in, Decoding}
use Rattle.decode.proofs.Read.{start_first}
use Rattle.decode.proofs.Accepts.{Accepts, accepts}
use Rattle.grammar.proofs.Direct.{direct, place_at_lem, route_at_lem, parsed_mark}

-- where a group and its parts stand
pub parsed_is : (s : List ℕ) (at : ℕ) → parsed_at s at ≡ record { address = address_of (group_at s at); high_bit = mark_of (group_at s at) }
unfolding parsed_at
parsed_is s at = refl

-- the groups of an accepted input's repeaters stand in it, before the end
pub record Route (s : List ℕ) (d : Decoding) : Type 0 where
  pub few : d.frame.route_count ≤ 8
  pub before : 14 + 7 * d.frame.route_count ≤ end_of s + 1
  pub end_in : end_of s < length s
  pub read : d.frame.route ≡ route_at s 14 d.frame.route_count

route_made : (mode : Mode) (s : List ℕ) (a : Accepts mode s (decode mode s)) → Route s (accepted_with mode (frame_at s 0 a.count a.kind) (end_of s + 1) (length s))
unfolding accepted_with frame_at
route_made mode s a =
    let counted = a.counted in
    let long = a.long in
    record { few = a.few; before = omega arith; end_in = a.end_in; read = refl }

pub route : (mode : Mode) (s : List ℕ) → is_accepted (decode mode s).answer ≡ true → Route s (decode mode s)
route mode s e = let a = accepts mode s e in subst (λ (d : Decoding). Route s d) (sym a.made) (route_made mode s a)

-- the repeater and the mark of a place, by its group
pub place_read : (s : List ℕ) (at n i : ℕ) → i < n → n ≤ 8
    → ((repeater_at (route_at s at n) i).repeater ≡ (parsed_at s (at + 7 * i)).address)
    × ((repeater_at (route_at s at n) i).has_repeated ≡ mark_set (get_or s (at + 7 * i + 6) 0))
unfolding entry_at parsed_at
place_read s at n i h l =
    let e = route_at_lem s at n i h l in (
      ap (λ (x : RouteEntry). x.repeater) e,
      ap (λ (x : RouteEntry). x.has_repeated) e ∙ parsed_mark s (at + 7 * i),
    )

pub route-length : (s : List ℕ) (at n : ℕ) → length (route_at s at n) ≡ 8
unfolding route_at
route-length s at n = refl

-- a group apart from a changed octet stays
group_before : (s : List ℕ) (at p v : ℕ) → at + 7 ≤ p → group_at (set s p v) at ≡ group_at s at
group_before s at p v h =
    let q : p ≡ at + (p - at) = omega arith in
    rw q (rw (drop-set-add at s (p - at) v) (take-set-le 7 (drop at s) (p - at) v (omega arith)))

group-after : (s : List ℕ) (at p v : ℕ) → p < at → group_at (set s p v) at ≡ group_at s at
group-after s at p v h = rw (drop-set-lt at s p v h) refl

-- one whose last octet is changed has that one octet changed
group_last : (s : List ℕ) (at v : ℕ) → group_at (set s (at + 6) v) at ≡ set (group_at s at) 6 v
group_last s at v = rw (drop-set-add at s 6 v) (take-set-lt 7 (drop at s) 6 v (omega arith))

module _ (s : List ℕ) (at v : ℕ) (n i : ℕ) (h : i < n) (l : n ≤ 8) (fits : at + 7 * n ≤ length s)
    (low : field 0 7 v ≡ field 0 7 (get_or s (at + 7 * i + 6) 0)) where
  abbrev g : ℕ
  g = at + 7 * i

  abbrev t : List ℕ
  t = set s (g + 6) v

  own-length : length (group_at s g) ≡ 7
  own-length = length-take-le 7 (drop g s) (rw length-drop (omega arith))

  own_last : get_or (group_at s g) 6 0 ≡ get_or s (g + 6) 0
  own_last = get_d_part 7 g s 6 0 (omega arith)

  -- the place itself: the same repeater, marked as the new octet says
  entry-own : entry_at t g ≡ record { repeater = (entry_at s g).repeater; has_repeated = mark_set v }
  unfolding entry_at parsed_at
  entry-own =
      let same : field 1 6 v ≡ field 1 6 (get_or (group_at s g) 6 0) = rw own_last (omega arith) in
      let m : mark_of (set (group_at s g) 6 v) ≡ mark_set v =
      mark_last (set (group_at s g) 6 v) ∙ ap mark_set (get_or-set_same (group_at s g) 6 v 0 (rw own-length (omega arith))) in
      rw (group_last s g v, address_kept (group_at s g) v (rw own-length (omega arith)) same, m) refl

  entry_other : (k : ℕ) → (k ≡ i → ⊥) → entry_at t (at + 7 * k) ≡ entry_at s (at + 7 * k)
  unfolding entry_at parsed_at
  entry_other k d =
      by (ltb k i)
      (λ e. rw (group_before s (at + 7 * k) (g + 6) v (omega (arith, ltb-true k i e))) refl)
      (λ e. rw (group-after s (at + 7 * k) (g + 6) v (omega (arith, ltb-false k i e, d))) refl)

  place_other : (k : ℕ) → (k ≡ i → ⊥) → place_at t at n k ≡ place_at s at n k
  unfolding place_at
  place_other k d = rw (entry_other k d) refl

  place-own : place_at t at n i ≡ record { repeater = (place_at s at n i).repeater; has_repeated = mark_set v }
  unfolding place_at
  place-own = rw (lt-ltb i n h, entry-own) refl

  -- the route is the same but for that mark
  route-marked : route_at t at n ≡ set (route_at s at n) i (record { repeater = (repeater_at (route_at s at n) i).repeater; has_repeated = mark_set v })
  route-marked =
      let i8 : i < 8 = omega arith in
      ext_get_or past (route_at t at n) _ (rw (route-length, length-set, route-length) refl)
      (λ k b. let k8 : k < 8 = rw route-length at b in
      place_at_lem t at n k k8
      ∙ by (eqb k i)
      (λ q. let e : k ≡ i = eqb-true k i q in
      rw e (place-own ∙ rw (place_at_lem s at n i i8) (sym (get_or-set_same (route_at s at n) i _ past (rw route-length i8)))))
      (λ q. let d = eqb-false k i q in
      place_other k d ∙ sym (place_at_lem s at n k k8) ∙ sym (get_or-set_other (route_at s at n) i k _ past d)))

-- a frame with another mark at place i
abbrev pub remarked : Ax25Frame → ℕ → Bool → Ax25Frame
remarked f i m = record {
  source = f.source;
  destination = f.destination;
  route = set f.route i (record { repeater = (repeater_at f.route i).repeater; has_repeated = m });
  route_count = f.route_count;
  command_or_response = f.command_or_response;
  content = f.content;
}

-- what is read where the mark of one repeater is another, and every other bit the same
module _ (mode : Mode) (s : List ℕ) (e : is_accepted (decode mode s).answer ≡ true) (i v : ℕ) (h : i < (decode mode s).frame.route_count)
    (low : field 0 7 v ≡ field 0 7 (get_or s (14 + 7 * i + 6) 0)) where
  abbrev a : Accepts mode s (decode mode s)
  a = accepts mode s e

  count_read : (decode mode s).frame.route_count ≡ a.count
  unfolding accepted_with frame_at
  count_read = ap (λ (d : Decoding). d.frame.route_count) a.made

  inner : i < a.count
  inner = rw count_read at h

  abbrev p : ℕ
  p = 14 + 7 * i + 6

  abbrev u : List ℕ
  u = set s p v

  p_in : (p ≤ end_of s) × (end_of s < length s)
  p_in = let counted = a.counted in let long = a.long in (omega (arith, inner), a.end_in)

  -- the end bits are where they were
  same_low : (k : ℕ) → bit 0 (get_or u k 0) ≡ bit 0 (get_or s k 0)
  same_low k =
      let b : field 0 1 v ≡ field 0 1 (get_or s p 0) = omega (arith, low) in
      by (eqb k p)
      (λ e. let q : k ≡ p = eqb-true k p e in rw (q, get_or-set_same s p v 0 (omega (arith, p_in.0, p_in.1)), b) refl)
      (λ e. rw (get_or-set_other s p k v 0 (eqb-false k p e)) refl)

  same_start : start_of u ≡ 0
  same_start =
      let inside = a.end_in in
      start_first u (rw (get_or-set_other s p 0 v 0 (λ e. omega (arith, e))) a.first)

  same_end : end_of u ≡ end_of s
  same_end =
      first_is (bit 0) u 0 (end_of s) (rw length-set a.end_in)
      (same_low (end_of s) ∙ first_passes (bit 0) s 0 a.end_in)
      (λ j l. same_low j ∙ first_before (bit 0) s 0 j l)

  same-content : drop (end_of s + 1) u ≡ drop (end_of s + 1) s
  same-content = drop-set-lt (end_of s + 1) s p v (omega (arith, p_in.0))

  frame-marked : frame_at u 0 a.count a.kind ≡ remarked (frame_at s 0 a.count a.kind) i (mark_set v)
  unfolding frame_at parsed_at
  frame-marked =
      let fits : 14 + 7 * a.count ≤ length s = let counted = a.counted in let long = a.long in omega (arith, a.end_in) in
      rw (
        group_before s 0 p v (omega arith),
        group_before s 7 p v (omega arith),
        route-marked s 14 v a.count i inner a.few fits low,
      )
      refl

  read-marked : decode mode u ≡ accepted_with mode (frame_at u 0 a.count a.kind) (end_of s + 1) (length s)
  unfolding decode decode_field with_content
  read-marked =
      let long = a.long in
      let some : 0 < length (drop (end_of s + 1) s) = content_some mode _ _ a.read in
      let rest = length-drop (end_of s + 1) s in
      rw (same_start, same_end, same-content, length-set, a.counted)
      (simp (
        ne_eqb 0 (length s) (λ e. omega (arith, e, a.end_in)),
        ne_eqb (end_of s) (length s) (λ e. omega (arith, e, a.end_in)),
        le-ltb (end_of s + 1 - 0) 14 (omega arith),
        ne_eqb (end_of s + 1) (length s) (λ e. omega (arith, e)),
        le-ltb 8 a.count a.few,
        a.read,
      ) (rw length-set refl))

  -- the same answer, the same place of info, the same frame but for that mark
  pub decode-marked : decode mode u ≡ record {
    answer = (decode mode s).answer;
    frame = remarked (decode mode s).frame i (mark_set v);
    info_start = (decode mode s).info_start;
    info_len = (decode mode s).info_len;
  }
  unfolding accepted_with frame_at
  decode-marked = read-marked ∙ rw (frame-marked, a.made) refl

  -- the direct look passes where it passed
  pub direct-marked : direct mode u ≡ direct mode s
  direct-marked =
      rw (
        same_end,
        get_or-set_other s p 6 v 0 (λ e. omega (arith, e)),
        get_or-set_other s p 13 v 0 (λ e. omega (arith, e)),
        same-content,
      )
      refl

  -- the same info octets
  pub info-marked : info_in u (decode mode s) ≡ info_in s (decode mode s)
  unfolding accepted_with frame_at
  info-marked = rw a.made
      (by (has_info a.kind)
      (λ e. simp e (rw (drop-set-lt (end_of s + 1 + length (front mode a.kind)) s p v (omega (arith, p_in.0))) refl))
      (λ e. simp e))
