use mathlib.Core.Path.{ap, sym, ◌∙◌}
use native.Mathlib.Nat.{le_trans}
use native.Mathlib.Omega.{arith}
use lib.ListN.{drop, length-drop}
use Rattle.kiss_state.specs.declared.Stream.{Stream}
use Rattle.demands_stream.proofs.Cut.{turns}
use Rattle.demand_contracts_stream.proofs.Laws.{rest_all, left_start, left_turn, left_none}
use Rattle.demand_contracts_stream.proofs.used_up.Goals as goal

pub loop-i-init : goal.loop-i-init
loop-i-init c =
    let a = c.args in
    let f = c.feed-first in
    left_start a.octets.now a.head a.piece.now f.result f.new.octets (turns _ _ _ _ _ f.ensures.0 f.ensures.1)

pub overflow_add-packets : goal.overflow_add-packets
overflow_add-packets c =
    let l = c.loop-i in
    let f = c.feed-fed in
    let a = c.args in
    let rest = rest_all a.piece.now l.i in
    let t = turns l.octets l.h (drop l.i a.piece.now) f.result f.new.octets (rw rest at f.ensures.0) (rw rest at f.ensures.1) in
    let k = left_turn _ _ l.octets l.h a.piece.now l.packets l.i f.result f.new.octets l.invariant (omega arith) t in
    omega (arith, le_trans k.few k.within)

pub overflow_add-i : goal.overflow_add-i
overflow_add-i c =
    let l = c.loop-i in
    let f = c.feed-fed in
    let a = c.args in
    let rest = rest_all a.piece.now l.i in
    let t = turns l.octets l.h (drop l.i a.piece.now) f.result f.new.octets (rw rest at f.ensures.0) (rw rest at f.ensures.1) in
    let k = left_turn _ _ l.octets l.h a.piece.now l.packets l.i f.result f.new.octets l.invariant (omega arith) t in
    omega (arith, k.within)

pub loop-i-smaller : goal.loop-i-smaller
loop-i-smaller c =
    let l = c.loop-i in
    let f = c.feed-fed in
    let a = c.args in
    let rest = rest_all a.piece.now l.i in
    let t = turns l.octets l.h (drop l.i a.piece.now) f.result f.new.octets (rw rest at f.ensures.0) (rw rest at f.ensures.1) in
    let k = left_turn _ _ l.octets l.h a.piece.now l.packets l.i f.result f.new.octets l.invariant (omega arith) t in
    let some = t.some (omega (arith, length-drop l.i a.piece.now)) in
    let within = k.within in
    omega arith

pub loop-i-preserved : goal.loop-i-preserved
loop-i-preserved c =
    let l = c.loop-i in
    let f = c.feed-fed in
    let a = c.args in
    let rest = rest_all a.piece.now l.i in
    let t = turns l.octets l.h (drop l.i a.piece.now) f.result f.new.octets (rw rest at f.ensures.0) (rw rest at f.ensures.1) in
    let k = left_turn _ _ l.octets l.h a.piece.now l.packets l.i f.result f.new.octets l.invariant (omega arith) t in
    k

pub returns : goal.returns
returns c =
    let a = c.args in
    let f = c.feed-first in
    let l = c.loop-i in
    let t = turns a.octets.now a.head a.piece.now f.result f.new.octets f.ensures.0 f.ensures.1 in
    let e = left_none _ _ _ _ _ _ _ l.invariant (omega arith) in
    (sym (t.packets ∙ e.0), sym (ap (λ (s : Stream). s.head) (t.stream ∙ e.1)), sym (ap (λ (s : Stream). s.octets) (t.stream ∙ e.1)))
