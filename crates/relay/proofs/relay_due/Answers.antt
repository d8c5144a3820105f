-- The marks that are read are the hop set; its first clear bit is the due place, and what is left above that are broken marks; the
-- group at the due place is the repeater's; where it is ours its mark is set.
use Prim.Native.Nat.{ℕ, ◌+◌, ◌*◌, ◌/◌, ◌^◌, ◌≤◌, ◌<◌}
use mathlib.Core.Path.{◌≡◌, refl, ap, sym, ◌∙◌}
use mathlib.Core.Bool.{Bool, true, false, not}
use mathlib.Core.List.{List}
use native.Mathlib.Omega.{arith}
use borrow.Author.Tests.{eq-eqb, ne_eqb, not-true, not-false}
use lib.Dec.{eqb}
use lib.ListN.{length}
use Rattle.control.specs.declared.Mode.TheVariants.{Short}
use Rattle.decode.specs.Answer.{is_accepted}
use Rattle.decode.specs.Read.{parsed_at, route_at, decode}
use Rattle.hops.specs.Hops.{marks, set_of, first_clear, hop_set, due_place, broken}
use Rattle.hops.specs.Station.{same_station}
use Rattle.hops.proofs.Laws.{due_clear, due_within, broken-set}
use Rattle.relay.specs.Relay.{ours, left_by}
use Rattle.relay.proofs.Laws.{groups_inside, set_read, due_read, due_none, due-broken, due-other, due-ours}
use Rattle.std.specs.Prelude.{Ok}
use Rattle.decode.specs.Outline.{outline_of}
use Rattle.decode.specs.declared.Outline.{Outline}
use Rattle.decode.proofs.Whole.{outlined}
use Rattle.relay.proofs.relay_due.Goals as goal
use Rattle.relay.proofs.relay_due.Goals.{After-first_clear-due, Else-due-count}

-- what the outline tells
tied : (s : List ℕ) (o : Outline) → Ok o ≡ outline_of Short s → (is_accepted (decode Short s).answer ≡ true) × (o.route_count ≡ (decode Short s).frame.route_count)
tied s o e =
    let t = outlined Short s o e in
    (t.accepted, t.route_count)

-- the set that the loop read
is_set : (s : List ℕ) (n set : ℕ) → (is_accepted (decode Short s).answer ≡ true) × (n ≡ (decode Short s).frame.route_count)
    → set ≡ set_of (marks (route_at s 14 n) n) → set ≡ hop_set (decode Short s).frame
is_set s n set r e = e ∙ rw r.1 (set_read s r.0)

-- its first clear bit
due_is : (s : List ℕ) (n set d : ℕ) → (is_accepted (decode Short s).answer ≡ true) × (n ≡ (decode Short s).frame.route_count)
    → set ≡ set_of (marks (route_at s 14 n) n) → d ≡ first_clear set → d ≡ due_place (decode Short s).frame
due_is s n set d r e f = f ∙ rw (is_set s n set r e) (due_clear _)

due : (c : After-first_clear-due) → c.first_clear-due.result ≡ due_place (decode Short c.args.bytes.now).frame
due c = due_is _ _ _ _ (tied _ _ c.requires) c.hop_set_at-set.ensures c.first_clear-due.ensures

due_here : (c : Else-due-count) → c.first_clear-due.result ≡ due_place (decode Short c.args.bytes.now).frame
due_here c = due_is _ _ _ _ (tied _ _ c.requires) c.hop_set_at-set.ensures c.first_clear-due.ensures

-- where some place is due: it is one of those in use, and its group stands in the octets
inner : (c : Else-due-count) →
    let f = (decode Short c.args.bytes.now).frame in
    due_place f < f.route_count
inner c =
    omega (arith, due_within (decode Short c.args.bytes.now).frame, (tied _ _ c.requires).1, due_here c, c.if-due-count.false)

few : (c : Else-due-count) → c.first_clear-due.result < 8
few c =
    omega (arith, (groups_inside _ (tied _ _ c.requires).0).0, inner c, due_here c)

due_in : (c : Else-due-count) →
    let a = c.args in
    14 + 7 * c.first_clear-due.result + 7 ≤ length a.bytes.now
due_in c =
    omega (arith, (groups_inside _ (tied _ _ c.requires).0).1, due_here c, inner c)

-- it is the due place, and not the route's end
is-due : (c : Else-due-count) →
    let f = (decode Short c.args.bytes.now).frame in
    due_place f ≡ f.route_count → ⊥
is-due c q = omega (arith, inner c, q)

-- what is left of the set above it
above : (c : Else-due-count) →
    eqb (c.hop_set_at-set.result / 2 ^ c.first_clear-due.result) 0
    ≡ not (broken (decode Short c.args.bytes.now).frame)
above c = rw (is_set _ _ _ (tied _ _ c.requires) c.hop_set_at-set.ensures, due_here c) (broken-set _)

whole : (c : Else-due-count) → c.hop_set_at-set.result / 2 ^ c.first_clear-due.result ≡ 0 → broken (decode Short c.args.bytes.now).frame ≡ false
whole c none = not-true _ (sym (above c) ∙ eq-eqb _ _ none)

-- whose it is
whose : (c : Else-due-count) (is : Bool) → is ≡ same_station c.args.own (parsed_at c.args.bytes.now (14 + 7 * c.first_clear-due.result)).address
    → is ≡ ours c.args.own (decode Short c.args.bytes.now).frame
whose c is e =
    e ∙ rw (due_here c) (ap (same_station c.args.own) (sym (due_read c.args.bytes.now (tied _ _ c.requires).0 (inner c))))

pub hop_set_at-set-requires : goal.hop_set_at-set-requires
hop_set_at-set-requires c =
    let i = groups_inside _ (tied _ _ c.requires).0 in
    (omega (arith, i.0, (tied _ _ c.requires).1), omega (arith, i.1, (tied _ _ c.requires).1))

pub returns-then-due-count : goal.returns-then-due-count
returns-then-due-count c =
    let e = due_none c.args.own (decode Short c.args.bytes.now).frame (sym (due (goal.at.returns-then-due-count c).After-first_clear-due) ∙ c.if-due-count.true ∙ (tied _ _ c.requires).1) in
    record { value = sym e; bytes_after = ap (λ a. left_by a c.args.bytes.now) (sym e) }

pub overflow_cast-due-2 : goal.overflow_cast-due-2
overflow_cast-due-2 c = omega (arith, few (goal.at.overflow_cast-due-2 c).Else-due-count)

pub overflow_shr-set : goal.overflow_shr-set
overflow_shr-set c = omega (arith, few (goal.at.overflow_shr-set c).Else-due-count)

pub returns-then-set-due-ne0 : goal.returns-then-set-due-ne0
returns-then-set-due-ne0 c =
    let b = not-false _ (sym (above (goal.at.returns-then-set-due-ne0 c).Else-due-count) ∙ ne_eqb _ _ c.if-set-due-ne0.true) in
    let e = due-broken c.args.own (decode Short c.args.bytes.now).frame (is-due (goal.at.returns-then-set-due-ne0 c).Else-due-count) b in
    record { value = sym e; bytes_after = ap (λ a. left_by a c.args.bytes.now) (sym e) }

pub overflow_mul-at : goal.overflow_mul-at
overflow_mul-at c = omega (arith, due_in (goal.at.overflow_mul-at c).Else-due-count)

pub overflow_add-at : goal.overflow_add-at
overflow_add-at c = omega (arith, due_in (goal.at.overflow_add-at c).Else-due-count)

pub is_ours-requires : goal.is_ours-requires
is_ours-requires c = due_in (goal.at.is_ours-requires c).Else-due-count

pub returns-then-not-is_ours : goal.returns-then-not-is_ours
returns-then-not-is_ours c =
    let s = c.args.bytes.now in
    let e = due-other c.args.own (decode Short s).frame (is-due (goal.at.returns-then-not-is_ours c).Else-due-count) (whole (goal.at.returns-then-not-is_ours c).Else-due-count c.if-set-due-ne0.false) (sym (whose (goal.at.returns-then-not-is_ours c).Else-due-count _ c.is_ours.ensures) ∙ c.if-not-is_ours.true) in
    record { value = sym e; bytes_after = ap (λ a. left_by a s) (sym e) }

pub overflow_add-at-2 : goal.overflow_add-at-2
overflow_add-at-2 c = omega (arith, due_in (goal.at.overflow_add-at-2 c).Else-due-count)

pub set_mark-requires : goal.set_mark-requires
set_mark-requires c = omega (arith, due_in (goal.at.set_mark-requires c).Else-due-count)

pub returns : goal.returns
returns c =
    let s = c.args.bytes.now in
    let e = due-ours c.args.own (decode Short s).frame (is-due (goal.at.returns c).Else-due-count) (whole (goal.at.returns c).Else-due-count c.if-set-due-ne0.false) (sym (whose (goal.at.returns c).Else-due-count _ c.is_ours.ensures) ∙ c.if-not-is_ours.false) in
    record { value = sym e; bytes_after = c.set_mark.ensures ∙ rw (due (goal.at.returns c).After-first_clear-due, e) refl }
