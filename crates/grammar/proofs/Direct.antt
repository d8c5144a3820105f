-- A direct look at the octets of an accepted input passes exactly where it is what its frame spells.
use Prim.Native.Nat.{ℕ, zero, suc, ◌+◌, ◌-◌, ◌*◌, ◌%◌, ◌≤◌, ◌<◌}
use mathlib.Core.Path.{◌≡◌, refl, ap, sym, ◌∙◌}
use mathlib.Core.Bool.{Bool, true, false, false≢true, ◌&&◌}
use mathlib.Core.List.{List, ◌++◌}
use native.Mathlib.Omega.{arith}
use borrow.Author.Tests.{lt-ltb, eq-eqb, eqb-true, eqb-false}
use lib.Dec.{eqb, eqb-suc-suc, eqb-zero-suc, eqb-suc-zero}
use lib.ListN.{length, length-drop, get_or, take, drop, take-append-drop}
use lib.Seq.{drop-drop, take-add, take_all, length-take-le}
use Rattle.octets.specs.Octet.{Octets, bit}
use Rattle.octets.proofs.Choice.{by, both}
use Rattle.octets.proofs.Octet.{octets-drop, octets-take}
use Rattle.octets.proofs.First.{first_passes, first_before}
use Rattle.octets.proofs.Place.{get_d_part, of_eight}
use Rattle.group.specs.Group.{group_of, mark_of, mark_set}
use Rattle.group.proofs.Laws.{mark-written, written_read, mark_last}
use Rattle.content.specs.Spell.{has_info, front}
use Rattle.content_as_written.specs.AsWritten.{as_written, info_of}
use Rattle.content.specs.declared.FrameContent.{FrameContent}
use Rattle.control.specs.declared.Mode.{Mode}
use Rattle.content_as_written.proofs.Laws.{content_kept, content_exact}
use Rattle.content_as_written.proofs.AsWritten.{as-written_spelled}
use Rattle.decode.specs.Read.{end_of, group_at, parsed_at, entry_at, place_at, route_at, command_of, frame_at, accepted_with, decode, info_in, Decoding}
use Rattle.frame.specs.Spell.{past, repeater_at, groups_of, destination_mark, source_mark, address_field, spell, marked, Plain}
use Rattle.frame.specs.declared.Mark.{Mark}
use Rattle.frame.specs.declared.Mark.TheVariants.{Command, Response, Absent}
use Rattle.frame.specs.declared.Ax25Frame.{Ax25Frame}
use Rattle.decode.proofs.Accepts.{Accepts}
use Rattle.grammar.proofs.Back.{group-front, in_order_lem, after_dest, after-field, spelled_end}

-- the address field ends with a whole group; the marks of destination and source differ; content just as writing gives it. Callsigns, SSIDs and
-- reserved bits may be any
abbrev pub direct : Mode → List ℕ → Bool
direct m s =
    eqb ((end_of s + 1) % 7) 0
    && (marked (command_of (mark_set (get_or s 6 0)) (mark_set (get_or s 13 0))) && as_written m (drop (end_of s + 1) s))

-- the mark of a group, by its last octet in the input
pub parsed_mark : (s : List ℕ) (at : ℕ) → (parsed_at s at).high_bit ≡ mark_set (get_or s (at + 6) 0)
unfolding parsed_at
parsed_mark s at = mark_last (group_at s at) ∙ ap mark_set (get_d_part 7 at s 6 0 (omega arith))

always-marked : (m : Mark) → marked (command_of (destination_mark m) (source_mark m)) ≡ true
always-marked Command = refl
always-marked Response = refl
always-marked Absent = refl

module _ (mode : Mode) (f : Ax25Frame) (i : List ℕ) (p : Plain mode f i) where
  abbrev s : List ℕ
  s = spell mode f i

  abbrev n : ℕ
  n = f.route_count

  -- the marks of destination and source are those that writing gives
  spelled-marks : marked (command_of (mark_set (get_or s 6 0)) (mark_set (get_or s 13 0))) ≡ true
  unfolding parsed_at
  spelled-marks =
      let to : mark_of (group_at s 0) ≡ destination_mark f.command_or_response = rw (in_order_lem mode f i p, group-front) (mark-written _ _ _) in
      let from : mark_of (group_at s 7) ≡ source_mark f.command_or_response = rw (after_dest mode f i p, group-front) (mark-written _ _ _) in
      rw (sym (parsed_mark s 0) ∙ to, sym (parsed_mark s 7) ∙ from) (always-marked f.command_or_response)

  pub direct_spelled : direct mode s ≡ true
  direct_spelled =
      let e : end_of s ≡ 13 + 7 * n = spelled_end mode f i p in
      let at : end_of s + 1 ≡ 14 + 7 * n = omega (arith, e) in
      let tail : as_written mode (drop (end_of s + 1) s) ≡ true =
      rw (at, after-field mode f i p) (as-written_spelled mode f.content i p.content p.bare) in
      rw (eq-eqb ((end_of s + 1) % 7) 0 (omega (arith, e)), spelled-marks, tail)

marks-back : (a b : Bool) → marked (command_of a b) ≡ true → (destination_mark (command_of a b) ≡ a) × (source_mark (command_of a b) ≡ b)
marks-back true true e = absurd (false≢true e)
marks-back true false e = (refl, refl)
marks-back false true e = (refl, refl)
marks-back false false e = absurd (false≢true e)

-- the places of a route that is read, used or not
pub place_at_lem : (s : List ℕ) (at n k : ℕ) → k < 8 → repeater_at (route_at s at n) k ≡ place_at s at n k
unfolding route_at
place_at_lem s at n k h = of_eight (place_at s at n) past k h

-- a place in use is read from its group
pub route_at_lem : (s : List ℕ) (at n k : ℕ) → k < n → n ≤ 8 → repeater_at (route_at s at n) k ≡ entry_at s (at + 7 * k)
unfolding place_at
route_at_lem s at n k h l = place_at_lem s at n k (omega arith) ∙ rw (lt-ltb k n h) refl

zero_sym : (n : ℕ) → eqb 0 n ≡ eqb n 0
zero_sym zero = refl
zero_sym (suc n) = eqb-zero-suc n ∙ sym (eqb-suc-zero n)

-- an address field's octets are those of its groups
field_parts : (s : List ℕ) (n : ℕ) → take 7 s ++ (take 7 (drop 7 s) ++ take (7 * n) (drop 14 s)) ≡ take (14 + 7 * n) s
field_parts s n =
    let q : 14 + 7 * n ≡ 7 + (7 + 7 * n) = omega arith in
    rw (q, take-add 7 (7 + 7 * n) s, take-add 7 (7 * n) (drop 7 s), drop-drop 7 7 s)

module _ (s : List ℕ) (o : Octets s) (n : ℕ) (end : end_of s ≡ 13 + 7 * n) (inside : end_of s < length s) (few : n ≤ 8) where
  -- the low bit of a group's seventh octet
  last_bit : (j : ℕ) → j < n + 2 → (b : Bool) → eqb j (suc n) ≡ b → bit 0 (get_or s (7 * j + 6) 0) ≡ b
  last_bit j h true e =
      let i : 7 * j + 6 ≡ end_of s = omega (arith, eqb-true j (suc n) e) in
      rw i (first_passes (bit 0) s 0 inside)
  last_bit j h false e = first_before (bit 0) s 0 (7 * j + 6) (omega (arith, eqb-false j (suc n) e))

  octet_of_lem : (j k : ℕ) → k < 7 → get_or (group_at s (7 * j)) k 0 ≡ get_or s (7 * j + k) 0
  octet_of_lem j k h = get_d_part 7 (7 * j) s k 0 h

  group-again : (j : ℕ) → j < n + 2 → (b : Bool) → eqb j (suc n) ≡ b
      → group_of (parsed_at s (7 * j)).address (parsed_at s (7 * j)).high_bit b ≡ group_at s (7 * j)
  unfolding parsed_at
  group-again j h b e =
      let g : List ℕ = group_at s (7 * j) in
      let l : length g ≡ 7 = length-take-le 7 (drop (7 * j) s) (rw length-drop (omega arith)) in
      let low : bit 0 (get_or g 6 0) ≡ b = rw (octet_of_lem j 6 (omega arith)) (last_bit j h b e) in
      let x = written_read g l (octets-take (drop (7 * j) s) 7 (octets-drop s (7 * j) o))
      (λ k m. rw (octet_of_lem j k (omega arith)) (first_before (bit 0) s 0 (7 * j + k) (omega arith))) in
      rw low at x

  routes-again : (m : ℕ) → m ≤ n → groups_of (route_at s 14 n) n m ≡ take (7 * m) (drop 14 s)
  unfolding groups_of entry_at
  routes-again zero h = refl
  routes-again (suc m) h =
      let q : 7 * suc m ≡ 7 * m + 7 = omega arith in
      let at : 14 + 7 * m ≡ 7 * suc (suc m) = omega arith in
      rw (routes-again m (omega arith), route_at_lem s 14 n m h few, q, take-add (7 * m) 7 (drop 14 s), drop-drop (7 * m) 14 s)
      (ap (λ (x : List ℕ). take (7 * m) (drop 14 s) ++ x) (rw at (group-again (suc (suc m)) (omega arith) (eqb (suc m) n) (eqb-suc-suc (suc m) n))))

  -- the address field is spelled again as it was read, whatever follows it
  pub spell-again : (mode : Mode) (k : FrameContent) (i : List ℕ) → marked (frame_at s 0 n k).command_or_response ≡ true
      → spell mode (frame_at s 0 n k) i ≡ take (14 + 7 * n) s ++ (front mode k ++ i)
  unfolding spell address_field frame_at
  spell-again mode k i m =
      let b = marks-back (parsed_at s 0).high_bit (parsed_at s 7).high_bit m in
      rw (
        b.0,
        b.1,
        group-again 0 (omega arith) false (eqb-zero-suc n),
        group-again 1 (omega arith) (eqb n 0) (eqb-suc-suc 0 n ∙ zero_sym n),
        routes-again n (omega arith),
        field_parts s n,
      )
      refl

module _ (mode : Mode) (s : List ℕ) (o : Octets s) (a : Accepts mode s (decode mode s)) where
  -- info stands after the octets before it
  pub info_tail : info_in s (decode mode s) ≡ info_of mode a.kind (drop (end_of s + 1) s)
  unfolding accepted_with frame_at
  info_tail = rw a.made
      (by (has_info a.kind)
      (λ e. let b : ℕ = length (front mode a.kind) in
      simp (e, drop-drop b (end_of s + 1) s)
      (take_all (length s - (end_of s + 1 + b)) (drop (end_of s + 1 + b) s) (rw length-drop (omega arith))))
      (λ e. simp e))

  pub made_frame : (decode mode s).frame ≡ frame_at s 0 a.count a.kind
  unfolding accepted_with
  made_frame = ap (λ (d : Decoding). d.frame) a.made

  -- of a kind with info, the octets before it and the info are all that follows the address field
  pub info_kept : has_info (decode mode s).frame.content ≡ true → front mode (decode mode s).frame.content ++ info_in s (decode mode s) ≡ drop (end_of s + 1) s
  unfolding frame_at
  info_kept e =
      let k : (decode mode s).frame.content ≡ a.kind = ap (λ (f : Ax25Frame). f.content) made_frame in
      rw (k, info_tail) (content_kept mode (drop (end_of s + 1) s) (octets-drop s (end_of s + 1) o) a.kind a.read (rw k at e))

  pub direct-again : direct mode s ≡ true → spell mode (decode mode s).frame (info_in s (decode mode s)) ≡ s
  unfolding frame_at
  direct-again e =
      let n : ℕ = a.count in
      let t1 = both (eqb ((end_of s + 1) % 7) 0) _ e in
      let t2 = both (marked (command_of (mark_set (get_or s 6 0)) (mark_set (get_or s 13 0)))) _ t1.1 in
      let end : end_of s ≡ 13 + 7 * n = omega (arith, a.counted, a.long, eqb-true ((end_of s + 1) % 7) 0 t1.0) in
      let at : end_of s + 1 ≡ 14 + 7 * n = omega (arith, end) in
      let c : List ℕ = drop (end_of s + 1) s in
      let x = content_exact mode c (octets-drop s (end_of s + 1) o) a.kind a.read t2.1 in
      let tail : front mode a.kind ++ info_in s (decode mode s) ≡ drop (14 + 7 * n) s =
      ap (λ (y : List ℕ). front mode a.kind ++ y) info_tail ∙ x ∙ ap (λ (j : ℕ). drop j s) at in
      rw made_frame
      (spell-again s o n end a.end_in a.few mode a.kind (info_in s (decode mode s)) (rw (parsed_mark s 0, parsed_mark s 7) t2.0)
      ∙ rw (tail, take-append-drop (14 + 7 * n) s) refl)
