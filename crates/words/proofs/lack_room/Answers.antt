use Prim.Native.Nat.{◌+◌, ◌≤◌, ◌<◌}
use mathlib.Core.Path.{◌≡◌, sym, ap, ◌∙◌}
use mathlib.Core.Bool.{false}
use native.Mathlib.Omega.{arith}
use borrow.Author.Tests.{ltb-true, ltb-false, lt-ltb}
use lib.Dec.{ltb}
use Rattle.words.proofs.lack_room.Goals as goal
use Rattle.words.proofs.lack_room.Goals.{After-lacks_room, After-lacks_room-2}

first_fits : (c : After-lacks_room) → c.lacks_room.result ≡ false → c.args.at + c.args.first ≤ c.args.room
first_fits c e = ltb-false _ _ (sym c.lacks_room.ensures ∙ e)

second_fits : (c : After-lacks_room-2) → c.lacks_room-2.result ≡ false
    → c.args.at + c.args.first + c.args.second ≤ c.args.room
second_fits c e = ltb-false _ _ (sym c.lacks_room-2.ensures ∙ e)

pub returns-then-lacks_room : goal.returns-then-lacks_room
returns-then-lacks_room c =
    let g = c.args in
    let h : g.room < g.at + g.first = ltb-true _ _ (sym c.lacks_room.ensures ∙ c.if-lacks_room.true) in
    sym (lt-ltb g.room (g.at + (g.first + (g.second + g.third))) (omega (arith, h)))

pub overflow_add-at : goal.overflow_add-at
overflow_add-at c = omega (arith, first_fits (goal.at.overflow_add-at c).After-lacks_room c.if-lacks_room.false)

pub returns-then-lacks_room-2 : goal.returns-then-lacks_room-2
returns-then-lacks_room-2 c =
    let g = c.args in
    let h : g.room < g.at + g.first + g.second = ltb-true _ _ (sym c.lacks_room-2.ensures ∙ c.if-lacks_room-2.true) in
    sym (lt-ltb g.room (g.at + (g.first + (g.second + g.third))) (omega (arith, h)))

pub overflow_add-at-2 : goal.overflow_add-at-2
overflow_add-at-2 c = omega (arith, second_fits (goal.at.overflow_add-at-2 c).After-lacks_room-2 c.if-lacks_room-2.false)

pub overflow_add-at-3 : goal.overflow_add-at-3
overflow_add-at-3 c = omega (arith, second_fits (goal.at.overflow_add-at-3 c).After-lacks_room-2 c.if-lacks_room-2.false)

pub returns : goal.returns
returns c =
    let g = c.args in
    c.lacks_room-3.ensures ∙ ap (ltb g.room) (omega arith)
