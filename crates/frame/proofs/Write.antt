-- Laws of writing that the functions' proofs share: lengths, the groups one after the other, which addresses can be written.
use Prim.Native.Nat.{ℕ, zero, suc, ◌+◌, ◌-◌, ◌*◌, ◌≤◌, ◌<◌}
use mathlib.Core.Path.{◌≡◌, refl, sym, subst, ◌∙◌}
use mathlib.Core.Bool.{true, false, true≢false, not, ◌&&◌}
use mathlib.Core.List.{List, [], ◌++◌, append_assoc}
use native.Mathlib.Numerals.{add-one}
use native.Mathlib.Omega.{arith}
use borrow.Author.Tests.{ltb-false, le-ltb, not-false}
use lib.Dec.{eqb, ltb}
use lib.ListN.{length, take, drop, length-append, length-drop}
use Rattle.octets.specs.Splice.{splice}
use Rattle.octets.proofs.Choice.{by, both, either}
use Rattle.octets.proofs.Splice.{part_from, splice-length, splice-more, splice-then, splice_part}
use Rattle.address.specs.Address.{encodable}
use Rattle.group.specs.Group.{group_of}
use Rattle.group.proofs.Laws.{group-length}
use Rattle.content.specs.Spell.{front}
use Rattle.content.specs.Refused.{long_frmr, stray_info, stray_pid}
use Rattle.encoding.specs.Encode.{judged, answer_of, encode_of, encoded}
use Rattle.content.specs.declared.FrameContent.{FrameContent}
use Rattle.control.specs.declared.Mode.{Mode}
use Rattle.encoding.specs.declared.EncodeError.{EncodeError}
use Rattle.encoding.proofs.Laws.{answer-written, judged_by}
use Rattle.std.specs.List.{list_all}
use Rattle.std.proofs.lemmas.List.{get_or-take}
use Rattle.std.proofs.lemmas.List.Folds.{list_all_more, list_all_at}
use Rattle.frame.specs.Spell.{past, repeater_at, groups_of, destination_mark, source_mark, address_field, spell}
use Rattle.frame.specs.Write.{entry_encodable, route_encodable, frame_encodable, content_answer, write_answer, Taken}
use Rattle.std.specs.Prelude.{Result, Ok, Err}
use Rattle.frame.specs.declared.WriteError.{WriteError}
use Rattle.frame.specs.Frame.{error_of}
use Rattle.frame.specs.declared.Mark.{Mark}
use Rattle.frame.specs.declared.Mark.TheVariants.{Command, Response, Absent}
use Rattle.frame.specs.declared.RouteEntry.{RouteEntry}
use Rattle.frame.specs.declared.Ax25Frame.{Ax25Frame}

pub groups-length : (route : List RouteEntry) (total n : ℕ) → length (groups_of route total n) ≡ 7 * n
unfolding groups_of
groups-length route total zero = refl
groups-length route total (suc n) =
    length-append (groups_of route total n) _ ∙ rw (groups-length route total n, group-length) (omega arith)

-- the groups of a loop that begins, and one group more
pub groups_none : (route : List RouteEntry) (total : ℕ) → groups_of route total 0 ≡ []
unfolding groups_of
groups_none route total = refl

pub groups-more : (l : List ℕ) (at : ℕ) (route : List RouteEntry) (total i : ℕ) → at + 7 * i + 7 ≤ length l
    → splice (splice l at (groups_of route total i)) (at + 7 * i)
    (group_of (repeater_at route i).repeater (repeater_at route i).has_repeated (eqb (i + 1) total))
    ≡ splice l at (groups_of route total (i + 1))
unfolding groups_of
groups-more l at route total i h =
    let n : length (groups_of route total i) ≡ 7 * i = groups-length route total i in
    let e : length (group_of (repeater_at route i).repeater (repeater_at route i).has_repeated (eqb (suc i) total)) ≡ 7 = group-length _ _ _ in
    rw (add-one, ← n) (splice-more l at (groups_of route total i) _ (omega arith))

-- the first n entries of a route can be written where the first n repeaters can
pub first_encodable : (route : List RouteEntry) (n : ℕ) → n ≤ length route → list_all entry_encodable (take n route) ≡ route_encodable route n
unfolding route_encodable
first_encodable route zero h = refl
first_encodable route (suc n) h =
    let more : list_all entry_encodable (take (n + 1) route) ≡ (list_all entry_encodable (take n route) && entry_encodable (repeater_at route n)) =
    list_all_more entry_encodable route n past h in
    rw (← add-one) (more ∙ rw (first_encodable route n (omega arith)) refl)

-- and each of them can be
pub entry_each : (route : List RouteEntry) (i : ℕ) → list_all entry_encodable route ≡ true → i < length route
    → encodable (repeater_at route i).repeater ≡ true
entry_each route i e h =
    by (encodable (repeater_at route i).repeater) (λ t. t)
    (λ f. absurd (true≢false (sym e ∙ list_all_at entry_encodable route i past h f)))

-- the groups of the first n entries
pub groups_first : (route : List RouteEntry) (total n k : ℕ) → k ≤ n → groups_of (take n route) total k ≡ groups_of route total k
unfolding groups_of
groups_first route total n zero h = refl
groups_first route total n (suc k) h = rw (groups_first route total n k (omega arith), get_or-take n route k past h) refl

pub field-length : (f : Ax25Frame) → length (address_field f) ≡ 14 + 7 * f.route_count
unfolding address_field
field-length f = simp (length-append, group-length, groups-length) (omega arith)

pub spell-length : (m : Mode) (f : Ax25Frame) (info : List ℕ)
    → length (spell m f info) ≡ 14 + 7 * f.route_count + length (front m f.content) + length info
unfolding spell
spell-length m f info = simp (length-append, field-length) (omega arith)

-- exactly one of the two marks is set
pub marks_differ : (m : Mark) → source_mark m ≡ not (destination_mark m)
marks_differ Command = refl
marks_differ Response = refl
marks_differ Absent = refl

-- destination, source and route, written one after the other
pub field_put : (l : List ℕ) (f : Ax25Frame) → 14 + 7 * f.route_count ≤ length l
    → splice
    (splice (splice l 0 (group_of f.destination (destination_mark f.command_or_response) false)) 7
    (group_of f.source (source_mark f.command_or_response) (eqb f.route_count 0)))
    14 (groups_of f.route f.route_count f.route_count)
    ≡ splice l 0 (address_field f)
unfolding address_field
field_put l f h =
    let d : List ℕ = group_of f.destination (destination_mark f.command_or_response) false in
    let s : List ℕ = group_of f.source (source_mark f.command_or_response) (eqb f.route_count 0) in
    let g : List ℕ = groups_of f.route f.route_count f.route_count in
    let ds : length d ≡ 7 = group-length _ _ _ in
    let ss : length s ≡ 7 = group-length _ _ _ in
    let gs : length g ≡ 7 * f.route_count = groups-length _ _ _ in
    let b : length (d ++ s) ≡ 14 = length-append d s ∙ omega arith in
    rw (splice-then l 0 7 d s ds (omega arith), splice-then l 0 14 (d ++ s) g b (omega arith), append_assoc)

-- what can be written of a frame can be of each of its addresses
pub frame_each : (f : Ax25Frame) → frame_encodable f ≡ true
    → (encodable f.destination ≡ true) × (encodable f.source ≡ true) × (route_encodable f.route f.route_count ≡ true)
unfolding frame_encodable
frame_each f e =
    let a = both (encodable f.destination && encodable f.source) (route_encodable f.route f.route_count) e in
    let b = both (encodable f.destination) (encodable f.source) a.0 in
    (b.0, b.1, a.1)

-- past the tests of the route and of the addresses the content decides
pub content_decides : (m : Mode) (f : Ax25Frame) (info : List ℕ) (room head : ℕ) → f.route_count ≤ 8 → frame_encodable f ≡ true
    → head ≡ 14 + 7 * f.route_count + length (front m f.content)
    → content_answer m f.content (length info) (head + length info) room ≡ write_answer m f info room
unfolding write_answer
content_decides m f info room head n e h = rw (le-ltb 8 f.route_count n, e, spell-length m f info, h)

-- the content's answer, of which the frame's is the same with the frame's errors
unfoldable pub through : Result Unit EncodeError → Result Unit WriteError
through (Ok tt) = Ok tt
through (Err e) = Err (error_of e)

pub content_through : (m : Mode) (k : FrameContent) (info whole room : ℕ) → through (judged m k info whole room) ≡ content_answer m k info whole room
unfolding content_answer through
content_through = judged_by through

-- an accepted answer says that nothing was refused
Says : Mode → Ax25Frame → List ℕ → ℕ → Result Unit WriteError → Type 0
Says m f info room (Ok tt) = Taken m f info room
Says m f info room (Err e) = Unit {0}

says : (m : Mode) (f : Ax25Frame) (info : List ℕ) (room : ℕ) → Says m f info room (write_answer m f info room)
unfolding write_answer content_answer Says
says m f info room =
    let P : Result Unit WriteError → Type 0 = Says m f info room in
    either P (ltb 8 f.route_count) (λ _. tt)
    (λ a. either P (not (frame_encodable f)) (λ _. tt)
    (λ b. either P (long_frmr m f.content) (λ _. tt)
    (λ k. either P (stray_info f.content (length info)) (λ _. tt)
    (λ c. either P (stray_pid f.content) (λ _. tt)
    (λ d. either P (ltb room (length (spell m f info))) (λ _. tt)
    (λ e. record { count = ltb-false _ _ a; addresses = not-false _ b; known = k; info = c; pid = d; room = ltb-false _ _ e }))))))

pub accepted_taken : (m : Mode) (f : Ax25Frame) (info : List ℕ) (room : ℕ) → write_answer m f info room ≡ Ok tt → Taken m f info room
unfolding Says
accepted_taken m f info room e = subst (Says m f info room) e (says m f info room)

-- the address field, then the content in the room that is left
module _ (m : Mode) (f : Ax25Frame) (info l : List ℕ) (t : Taken m f info (length l)) where
  abbrev at : ℕ
  at = 14 + 7 * f.route_count

  abbrev after : List ℕ
  after = splice l 0 (address_field f)

  abbrev left : List ℕ
  left = take (length after - at) (drop at after)

  pub field_room : at ≤ length l
  field_room = omega (arith, spell-length m f info, t.room)

  fits : at + (length (front m f.content) + length info) ≤ length l
  fits = omega (arith, spell-length m f info, t.room)

  content-written : answer_of m f.content (length info) (length left) ≡ Ok tt
  content-written =
      let n : length after ≡ length l = splice-length l 0 (address_field f) in
      let r : length left ≡ length after - at = rw part_from (length-drop at after) in
      answer-written m f.content (length info) (length left) t.known t.info t.pid
      (le-ltb (length left) (length (front m f.content) + length info) (omega (arith, fits)))

  pub content-length : encode_of m f.content (length info) (length left) ≡ Ok (length (front m f.content) + length info)
  content-length = rw content-written

  pub content-put : take at after ++ (splice left 0 (encoded m f.content info (length left)) ++ drop (length after - at) (drop at after))
      ≡ splice l 0 (spell m f info)
  unfolding spell
  content-put =
      let n : length after ≡ length l = splice-length l 0 (address_field f) in
      let z : 0 + at ≡ at = omega arith in
      let both : splice after (0 + at) (front m f.content ++ info) ≡ splice l 0 (address_field f ++ (front m f.content ++ info)) =
      splice-then l 0 at (address_field f) (front m f.content ++ info) (field-length f) (rw (z, length-append) fits) in
      rw content-written (splice_part after at (front m f.content ++ info) (rw n field_room) ∙ rw z at both)
