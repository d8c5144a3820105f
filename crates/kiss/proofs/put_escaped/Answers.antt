use Rattle.std.proofs.Common.{ℕ, ◌≤◌, length, refl, ap, sym, ◌∙◌, arith, length-drop, eqb-true}
use Rattle.std.proofs.lemmas.Bool.{eqb-false}
use Rattle.octets.proofs.Splice.{splice-length}
use Rattle.kiss.proofs.Laws.{left_turn, left_none, next_takes}
use Rattle.kiss.proofs.put_escaped.Goals as goal
use Rattle.kiss.proofs.put_escaped.Goals.{In-loop-rest}

some : (c : In-loop-rest) → 1 ≤ length c.loop-rest.rest.now
some c = let n = eqb-false _ _ (sym c.is_empty.ensures ∙ c.loop-rest-test.true) in omega arith

pub loop-rest-init : goal.loop-rest-init
loop-rest-init c = (refl, record { many = refl; long = c.requires; is = refl })

pub put_next-next-requires : goal.put_next-next-requires
put_next-next-requires c =
    let l = c.loop-rest.invariant.1 in
    let many = l.many in
    let long = l.long in
    record { some = some (goal.at.put_next-next-requires c).In-loop-rest; room = omega arith }

pub loop-rest-smaller : goal.loop-rest-smaller
loop-rest-smaller c =
    let t = next_takes c.loop-rest.rest.now (some (goal.at.loop-rest-smaller c).In-loop-rest) in
    rw c.put_next-next.ensures.rest (omega (arith, length-drop {A = ℕ}, t.0, t.1))

pub loop-rest-preserved : goal.loop-rest-preserved
loop-rest-preserved c =
    let l = c.loop-rest in
    let e = c.put_next-next.ensures in
    let h = some (goal.at.loop-rest-preserved c).In-loop-rest in
    (ap length e.out_after ∙ splice-length _ _ _ ∙ l.invariant.0, left_turn _ _ _ _ _ l.invariant.1 _ _ c.put_next-next.new.out h e.rest e.place e.out_after)

pub returns : goal.returns
returns c = left_none _ _ _ _ _ c.loop-rest.invariant.1 (eqb-true _ _ (sym c.is_empty.ensures ∙ c.loop-rest-test.false))
