-- Each refusal by its own test, in the definition's order.
use mathlib.Core.Path.{◌≡◌, sym, ◌∙◌}
use mathlib.Core.Bool.{false}
use Rattle.content.specs.Refused.{long_frmr, stray_info, stray_pid}
use Rattle.encoding.specs.Encode.{judged}
use Rattle.encoding.proofs.judge.Goals as goal
use Rattle.encoding.proofs.judge.Goals.{Else-long_frmr, Else-stray_info, Else-stray_pid}

-- what each test that is passed says
known : (c : Else-long_frmr) → let a = c.args in long_frmr a.mode a.content ≡ false
known c = sym c.long_frmr.ensures ∙ c.if-long_frmr.false

fits : (c : Else-stray_info) → let a = c.args in stray_info a.content a.carried ≡ false
fits c = sym c.stray_info.ensures ∙ c.if-stray_info.false

inside : (c : Else-stray_pid) → stray_pid c.args.content ≡ false
inside c = sym c.stray_pid.ensures ∙ c.if-stray_pid.false

pub returns-then-long_frmr : goal.returns-then-long_frmr
unfolding judged
returns-then-long_frmr c = rw (sym c.long_frmr.ensures ∙ c.if-long_frmr.true)

pub returns-then-stray_info : goal.returns-then-stray_info
unfolding judged
returns-then-stray_info c = rw (known (goal.at.returns-then-stray_info c).Else-long_frmr, sym c.stray_info.ensures ∙ c.if-stray_info.true)

pub returns-then-stray_pid : goal.returns-then-stray_pid
unfolding judged
returns-then-stray_pid c = rw (known (goal.at.returns-then-stray_pid c).Else-long_frmr, fits (goal.at.returns-then-stray_pid c).Else-stray_info, sym c.stray_pid.ensures ∙ c.if-stray_pid.true)

pub returns-then-lacks_room : goal.returns-then-lacks_room
unfolding judged
returns-then-lacks_room c = rw (known (goal.at.returns-then-lacks_room c).Else-long_frmr, fits (goal.at.returns-then-lacks_room c).Else-stray_info, inside (goal.at.returns-then-lacks_room c).Else-stray_pid, sym c.lacks_room.ensures ∙ c.if-lacks_room.true)

pub returns : goal.returns
unfolding judged
returns c = rw (known (goal.at.returns c).Else-long_frmr, fits (goal.at.returns c).Else-stray_info, inside (goal.at.returns c).Else-stray_pid, sym c.lacks_room.ensures ∙ c.if-lacks_room.false)
