-- A turn more is one place more, as `set_turn` has it.
use Rattle.std.proofs.Common.{◌≡◌, ◌∙◌, refl, ◌+◌, ◌-◌, ◌*◌, ◌<◌, arith}
use Rattle.std.specs.Prelude.{drop}
use Rattle.hops.specs.Hops.{marked_at, marks, set_of, hop_set}
use borrow.Author.Tests.{lt-ltb, le-ltb}
use Rattle.hops.proofs.Laws.{set_turn, flagged}
use Rattle.hops.proofs.hop_set.Goals as goal
use Rattle.hops.proofs.hop_set.Goals.{After-from, then-i-frame, else-i-frame}

pub loop-i-init : goal.loop-i-init
unfolding set_of marks
loop-i-init c = refl

marked : (c : After-from) → c.if-i-frame.mark ≡ marked_at c.args.frame.route c.args.frame.route_count (c.loop-i.i - 1)
unfolding marked_at
marked c =
    elim c.if-i-frame.branch [
      | then-i-frame w ↦ w.mark-is ∙ rw (lt-ltb _ _ w.if-i-frame.true) refl
      | else-i-frame w ↦ w.mark-is ∙ rw (le-ltb _ _ w.if-i-frame.false) refl
    ]

step : (c : After-from) →
    let f = c.args.frame in
    let i = c.loop-i.i - 1 in
    (c.loop-i.set * 2 + c.from.result ≡ set_of (drop i (marks f.route f.route_count))) × (c.loop-i.set * 2 + c.from.result < 256)
step c =
    rw (c.from.ensures, marked c, flagged) (set_turn c.args.frame.route c.args.frame.route_count c.loop-i.i c.loop-i.set c.loop-i-test.true c.loop-i.auto.i c.loop-i.invariant)

pub overflow_mul-set : goal.overflow_mul-set
overflow_mul-set c = omega (arith, (set_turn c.args.frame.route c.args.frame.route_count c.loop-i.i c.loop-i.set c.loop-i-test.true c.loop-i.auto.i c.loop-i.invariant).1)

pub overflow_add-set : goal.overflow_add-set
overflow_add-set c = omega (arith, (step c).1)

pub loop-i-preserved : goal.loop-i-preserved
loop-i-preserved c = (step c).0

pub returns : goal.returns
unfolding hop_set
returns c =
    let e : c.loop-i.i ≡ 0 = omega arith in
    c.loop-i.invariant ∙ rw e refl
