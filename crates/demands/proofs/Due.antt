-- Document 02, M-102, proved: the due place is what its words say, it equals the hops used exactly where the marks are in order, 41 and
-- 43 exclude each other, and the frame of the report is refused by 43 to each of its repeaters.
use Prim.Native.Nat.{ℕ, ◌<◌, ◌≤◌}
use mathlib.Core.Path.{◌≡◌, refl, sym, ◌∙◌}
use mathlib.Core.Bool.{true, false, true≢false}
use mathlib.Core.List.{[], ◌∷◌, map}
use mathlib.Core.Logic.{◌↔◌}
use native.Mathlib.Omega.{arith}
use borrow.Author.Tests.{eq-eqb, eqb-true, eqb-false, ltb-true, ltb-false, not-true}
use lib.Count.{ones, ones_in}
use lib.Dec.{eqb, ltb}
use Rattle.octets.specs.All.{all}
use Rattle.octets.specs.First.{first}
use Rattle.octets.specs.Same.{same}
use Rattle.octets.proofs.Choice.{by}
use Rattle.control.specs.declared.Mode.TheVariants.{Short}
use Rattle.protocol.specs.Pid.{among, pid_of}
use Rattle.address.specs.Address.{no_call, encodable}
use Rattle.group.specs.Group.{address_of, mark_of}
use Rattle.parse.specs.Content.{i_of, s_kind_of, s_of, ui_of, u_of, content_of}
use Rattle.frame.specs.Frame.{no_entry, no_route, simple_ui, default_frame}
use Rattle.frame.specs.declared.Ax25Frame.{Ax25Frame}
use Rattle.decode.specs.Read.{parsed_at, entry_at, place_at, route_at, frame_at, refused_with, accepted_with, with_content, decode_field, decode}
use Rattle.hops.specs.Hops.{marked_at, marks, set_of, hop_set, hops_used, due_place, broken}
use Rattle.hops.specs.Station.{same_station}
use Rattle.hops.proofs.Laws.{due_eight, due_before, due_within, due_free, whole_from, whole_by, whole-used, used-due}
use Rattle.relay.specs.Relay.{used_up, due_answer, relay_answer, station_of, relay_answer_as, relayed_as}
use Rattle.demands.specs.Due.{places, FirstUnmarked, InOrder, reported, hills, offered}

-- the due place in document 02's words
places_few : (f : Ax25Frame) → places f ≤ 8
places_few f = by (ltb 8 f.route_count) (λ e. rw e (omega arith)) (λ e. rw e (ltb-false 8 f.route_count e))

pub due_place_lem : (f : Ax25Frame) → FirstUnmarked f (due_place f)
due_place_lem f = record {
  before = due_before f;
  here = λ h. due_free f (omega (arith, places_few f));
  within = by (ltb 8 f.route_count) (λ e. rw e (due_eight f)) (λ e. rw e (due_within f));
}

-- no other place is
pub one-due : (f : Ax25Frame) (d e : ℕ) → FirstUnmarked f d → FirstUnmarked f e → d ≡ e
one-due f d e x y =
    by (eqb d e)
    (λ q. eqb-true d e q)
    (λ q. by (ltb d e)
    (λ l. let h = ltb-true d e l in absurd (true≢false (sym (y.before d h) ∙ x.here (omega (arith, y.within)))))
    (λ l. let h : e < d = omega (arith, ltb-false d e l, eqb-false d e q) in absurd (true≢false (sym (x.before e h) ∙ y.here (omega (arith, x.within))))))

-- no mark follows an unmarked place exactly where none follows the first one
pub in_order_lem : (f : Ax25Frame) → (broken f ≡ false) ↔ InOrder f
in_order_lem f = (there, back)
  where
    there : broken f ≡ false → InOrder f
    there w i j h l m =
        by (ltb j (due_place f))
        (λ e. due_before f i (omega (arith, ltb-true j (due_place f) e)))
        (λ e. absurd (true≢false (sym m ∙ whole_from f w j (ltb-false j (due_place f) e) l)))

    back : InOrder f → broken f ≡ false
    back o =
        whole_by f (λ k h l. by (eqb (due_place f) k)
        (λ e. let q : due_place f ≡ k = eqb-true (due_place f) k e in rw (← q) (due_free f (omega arith)))
        (λ e. by (marked_at f.route f.route_count k)
        (λ m. let d : due_place f < k = omega (arith, eqb-false (due_place f) k e) in absurd (true≢false (sym (o (due_place f) k d l m) ∙ due_free f (omega arith))))
        (λ m. m)))

-- the due place and the hops used agree exactly then
pub agreeing : (f : Ax25Frame) → (hops_used f ≡ due_place f) ↔ InOrder f
agreeing f = (
  (λ e. (in_order_lem f).0 (not-true _ (sym (used-due f) ∙ eq-eqb (hops_used f) (due_place f) e))),
  (λ o. eqb-true (hops_used f) (due_place f) (used-due f ∙ rw ((in_order_lem f).1 o) refl)),
)

-- the conditions of 41 and 43 exclude each other
pub used-up-whole : (f : Ax25Frame) → used_up f ≡ true → broken f ≡ false
used-up-whole f u = whole-used f (eqb-true (due_place f) f.route_count u)

-- the frame of the report: two hops are used, place 1 is due, and whichever of its repeaters relays it is refused by 43
pub reported_frame : (hops_used (decode Short reported).frame ≡ 2) × (due_place (decode Short reported).frame ≡ 1)
    × (map offered hills ≡ (43, reported) ∷ (43, reported) ∷ (43, reported) ∷ [])
unfolding first same among pid_of no_call address_of mark_of i_of s_kind_of s_of ui_of u_of content_of no_entry no_route simple_ui default_frame parsed_at entry_at place_at route_at frame_at refused_with accepted_with with_content decode_field decode ones ones_in all marked_at marks set_of hop_set hops_used due_place broken same_station encodable due_answer relay_answer station_of relay_answer_as relayed_as
reported_frame = (refl, refl, refl)
