-- What a plain frame spells is decoded as that frame, with its info; so two plain frames with the same octets are the same.
use Prim.Native.Nat.{ℕ, zero, suc, ◌+◌, ◌-◌, ◌*◌, ◌/◌, ◌≤◌, ◌<◌}
use mathlib.Core.Path.{◌≡◌, refl, ap, sym, ◌∙◌}
use mathlib.Core.Bool.{Bool, true, false, false≢true, not}
use mathlib.Core.List.{List, ◌++◌, append_assoc}
use mathlib.Core.Logic.{⊎_elim}
use native.Mathlib.Nat.{eq-or-lt_of_le, le_of_suc-le-suc, not-suc-le-zero}
use native.Mathlib.Omega.{arith}
use borrow.Author.Tests.{ne_eqb, le-ltb, ltb-true}
use lib.Dec.{eqb, ltb}
use lib.ListN.{length, length-append, drop}
use lib.Seq.{take_at, drop_at, drop-drop, take_all}
use Rattle.octets.proofs.Choice.{by}
use Rattle.address.specs.Address.{PlainAddress}
use Rattle.group.specs.Group.{group_of, mark_of}
use Rattle.address.specs.declared.Address.{Address}
use Rattle.group.proofs.Laws.{group-length, read-written, mark-written}
use Rattle.content.specs.Spell.{has_info, front}
use Rattle.control.specs.declared.Mode.{Mode}
use Rattle.parse.specs.Content.{content_of}
use Rattle.std.specs.Prelude.{Ok}
use Rattle.content_as_written.proofs.Laws.{content-back, content_some}
use Rattle.decode.specs.Read.{start_of, end_of, group_at, parsed_at, entry_at, place_at, route_at, command_of, frame_at, accepted_with, with_content, decode_field, decode, info_in, Decoding}
use Rattle.frame.specs.Spell.{repeater_at, groups_of, destination_mark, source_mark, address_field, spell, marked, Plain, place_in_use, route_in_use, in_use}
use Rattle.frame.specs.declared.Mark.{Mark}
use Rattle.frame.specs.declared.Mark.TheVariants.{Command, Response, Absent}
use Rattle.frame.specs.declared.RouteEntry.{RouteEntry}
use Rattle.frame.specs.declared.Ax25Frame.{Ax25Frame}
use Rattle.grammar.proofs.Ends.{end-past, end_route, start_here}
use Rattle.frame.proofs.Write.{groups-length, spell-length, marks_differ}

-- to read further on is to read what is left when the front is dropped
pub parsed-drop : (s : List ℕ) (n at : ℕ) → parsed_at s (n + at) ≡ parsed_at (drop n s) at
unfolding parsed_at
parsed-drop s n at = rw (← drop-drop at n s)

pub entry-drop : (s : List ℕ) (n at : ℕ) → entry_at s (n + at) ≡ entry_at (drop n s) at
unfolding entry_at
entry-drop s n at = rw parsed-drop

-- a group at the front of a list is read as what it spells
pub group-front : (a : Address) (m e : Bool) (r : List ℕ) → group_at (group_of a m e ++ r) 0 ≡ group_of a m e
group-front a m e r = take_at (group_of a m e) r 7 (group-length a m e)

parsed-front : (a : Address) (m e : Bool) (r : List ℕ) → PlainAddress a → parsed_at (group_of a m e ++ r) 0 ≡ record { address = a; high_bit = m }
unfolding parsed_at
parsed-front a m e r p = simp (group-front, read-written a m e p, mark-written)

groups-drop : (route : List RouteEntry) (total n : ℕ) (r : List ℕ) → drop (7 * n) (groups_of route total n ++ r) ≡ r
groups-drop route total n r = drop_at (groups_of route total n) r (7 * n) (groups-length route total n)

-- the group of repeater i among the groups
group_in : (route : List RouteEntry) (total n i : ℕ) (r : List ℕ) → i < n
    → group_at (groups_of route total n ++ r) (7 * i) ≡ group_of (repeater_at route i).repeater (repeater_at route i).has_repeated (eqb (suc i) total)
unfolding groups_of
group_in route total zero i r h = absurd (not-suc-le-zero h)
group_in route total (suc n) i r h =
    ⊎_elim
    (λ (e : i ≡ n). rw (append_assoc, e, groups-drop route total n _) (group-front _ _ _ r))
    (λ (l : i < n). rw append_assoc (group_in route total n i _ l))
    (eq-or-lt_of_le (le_of_suc-le-suc h))

route-back : (route : List RouteEntry) (total n i : ℕ) (r : List ℕ) → i < n → PlainAddress (repeater_at route i).repeater
    → entry_at (groups_of route total n ++ r) (7 * i) ≡ repeater_at route i
unfolding entry_at parsed_at
route-back route total n i r h p = rw (group_in route total n i r h, read-written _ _ _ p, mark-written)

mark-back : (m : Mark) → marked m ≡ true → command_of (destination_mark m) (source_mark m) ≡ m
mark-back Command h = refl
mark-back Response h = refl
mark-back Absent h = absurd (false≢true h)

module _ (mode : Mode) (f : Ax25Frame) (i : List ℕ) (p : Plain mode f i) where
  abbrev n : ℕ
  n = f.route_count

  abbrev dest : List ℕ
  dest = group_of f.destination (destination_mark f.command_or_response) false

  abbrev src : List ℕ
  src = group_of f.source (source_mark f.command_or_response) (eqb n 0)

  abbrev tail : List ℕ
  tail = groups_of f.route n n ++ (front mode f.content ++ i)

  -- the parts one after the other, bracketed to the right
  pub in_order_lem : spell mode f i ≡ dest ++ (src ++ tail)
  unfolding spell address_field
  in_order_lem = simp append_assoc

  pub spelled_start : start_of (spell mode f i) ≡ 0
  spelled_start = rw in_order_lem (start_here f.destination _ _ false p.destination p.starts)

  pub spelled_end : end_of (spell mode f i) ≡ 13 + 7 * n
  spelled_end = rw (in_order_lem, end-past, end_route) (omega arith)

  pub after_dest : drop 7 (spell mode f i) ≡ src ++ tail
  after_dest = rw in_order_lem (drop_at dest (src ++ tail) 7 (group-length _ _ _))

  after_src : drop 14 (spell mode f i) ≡ tail
  after_src = sym (drop-drop 7 7 (spell mode f i)) ∙ rw after_dest (drop_at src tail 7 (group-length _ _ _))

  pub after-field : drop (14 + 7 * n) (spell mode f i) ≡ front mode f.content ++ i
  after-field = sym (drop-drop (7 * n) 14 (spell mode f i)) ∙ rw (after_src, groups-drop)

  dest-back : parsed_at (spell mode f i) 0 ≡ record { address = f.destination; high_bit = destination_mark f.command_or_response }
  dest-back = rw in_order_lem (parsed-front f.destination _ _ _ p.destination)

  src-back : parsed_at (spell mode f i) 7 ≡ record { address = f.source; high_bit = source_mark f.command_or_response }
  src-back = parsed-drop (spell mode f i) 7 0 ∙ rw after_dest (parsed-front f.source _ _ _ p.source)

  place-back : (k : ℕ) → place_at (spell mode f i) 14 n k ≡ place_in_use f.route n k
  unfolding place_at place_in_use
  place-back k =
      by (ltb k n)
      (λ e. simp e (entry-drop (spell mode f i) 14 (7 * k) ∙ rw after_src (route-back _ _ _ k _ (ltb-true k n e) (p.repeaters k (ltb-true k n e)))))
      (λ e. simp e)

  frame_back : frame_at (spell mode f i) 0 n f.content ≡ in_use f
  unfolding frame_at in_use route_at route_in_use
  frame_back = simp (dest-back, src-back, mark-back f.command_or_response p.mark, place-back)

  accepts : content_of mode (front mode f.content ++ i) ≡ Ok f.content
  accepts = content-back mode f.content i p.content p.bare

  pub decode-spell : decode mode (spell mode f i) ≡ accepted_with mode (in_use f) (14 + 7 * n) (length (spell mode f i))
  unfolding decode decode_field with_content
  decode-spell =
      let l : length (spell mode f i) ≡ 14 + 7 * n + length (front mode f.content ++ i) = spell-length mode f i ∙ omega (arith, length-append (front mode f.content) i) in
      let c : 0 < length (front mode f.content ++ i) = content_some mode _ _ accepts in
      let h : n ≤ 8 = p.count in
      let count : (14 + 7 * n - 0 - 14) / 7 ≡ n = omega arith in
      let after : 13 + 7 * n + 1 ≡ 14 + 7 * n = omega arith in
      rw (spelled_start, spelled_end, after)
      (simp (
        ne_eqb 0 (length (spell mode f i)) (λ e. omega arith),
        ne_eqb (13 + 7 * n) (length (spell mode f i)) (λ e. omega arith),
        le-ltb (14 + 7 * n - 0) 14 (omega arith),
        ne_eqb (14 + 7 * n) (length (spell mode f i)) (λ e. omega arith),
        count,
        le-ltb 8 n h,
        after-field,
        accepts,
        frame_back,
      ))

  pub frame-spell : (decode mode (spell mode f i)).frame ≡ in_use f
  unfolding accepted_with
  frame-spell = ap (λ (d : Decoding). d.frame) decode-spell

  pub info-spell : info_in (spell mode f i) (decode mode (spell mode f i)) ≡ i
  unfolding accepted_with in_use
  info-spell =
      rw decode-spell
      (by (has_info f.content)
      (λ e.
      let b : ℕ = length (front mode f.content) in
      let rest : drop (14 + 7 * n + b) (spell mode f i) ≡ i =
      sym (drop-drop b (14 + 7 * n) (spell mode f i)) ∙ rw after-field (drop_at (front mode f.content) i b refl) in
      simp e (rw rest (take_all (length (spell mode f i) - (14 + 7 * n + b)) i (omega (arith, spell-length mode f i)))))
      (λ e. simp e (sym (p.bare e))))

-- two plain frames that spell the same octets agree in all that is in use, and in info
pub unique : (mode : Mode) (f g : Ax25Frame) (i j : List ℕ) → Plain mode f i → Plain mode g j → spell mode f i ≡ spell mode g j → (in_use f ≡ in_use g) × (i ≡ j)
unique mode f g i j p q e =
    let a : decode mode (spell mode f i) ≡ decode mode (spell mode g j) = ap (decode mode) e in
    let b : info_in (spell mode f i) (decode mode (spell mode f i)) ≡ info_in (spell mode g j) (decode mode (spell mode g j)) = ap (λ (s : List ℕ). info_in s (decode mode s)) e in
    (sym (frame-spell mode f i p) ∙ ap (λ (d : Decoding). d.frame) a ∙ frame-spell mode g j q, sym (info-spell mode f i p) ∙ b ∙ info-spell mode g j q)

-- exactly one of the first two marks is set
pub spelled-marks : (mode : Mode) (f : Ax25Frame) (i : List ℕ) (p : Plain mode f i) → mark_of (group_at (spell mode f i) 7) ≡ not (mark_of (group_at (spell mode f i) 0))
spelled-marks mode f i p =
    rw (after_dest mode f i p, in_order_lem mode f i p, group-front, group-front f.destination _ _ _, mark-written, mark-written) (marks_differ f.command_or_response)
