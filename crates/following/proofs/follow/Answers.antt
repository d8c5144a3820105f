use mathlib.Core.Path.{◌≡◌, refl, sym, ◌∙◌}
use mathlib.Core.Bool.{true, false}
use native.Mathlib.Omega.{arith}
use Rattle.octets.proofs.Splice.{splice_none, splice-length}
use Rattle.link.specs.Step.{step_of}
use Rattle.words.proofs.Room.{behind-most}
use Rattle.following.specs.Following.{stops, follow_text, followed}
use Rattle.following.proofs.Laws.{offered-stops, offered_goes}
use Rattle.following.proofs.follow.Goals as goal

pub returns-then-stopped : goal.returns-then-stopped
unfolding followed follow_text
returns-then-stopped c = record {
  value = rw c.if-stopped.true refl;
  out_after = rw c.if-stopped.true (sym (splice_none _ 0));
  length_in_bounds = omega arith;
}

pub returns-then-stops : goal.returns-then-stops
unfolding followed follow_text
returns-then-stops c =
    let g = c.args in
    let step = c.step-stepped.ensures in
    let put = c.put_answer-length.ensures in
    let number = c.number.ensures in
    let told : stops (step_of g.link g.frame.now).answer ≡ true = rw step at (sym c.stops.ensures ∙ c.if-stops.true) in
    let text = offered-stops g.link g.frame.now told in
    record {
      value = rw (c.if-stopped.false, told, text, ← step, ← number, ← put.value) refl;
      out_after = rw (c.if-stopped.false, text, ← step, ← number) put.out_after;
      length_in_bounds = rw (put.out_after, put.value, splice-length) (behind-most _ _);
    }

pub returns : goal.returns
unfolding followed follow_text
returns c =
    let g = c.args in
    let step = c.step-stepped.ensures in
    let put = c.put_gap-length.ensures in
    let told : stops (step_of g.link g.frame.now).answer ≡ false = rw step at (sym c.stops.ensures ∙ c.if-stops.false) in
    let text = offered_goes g.link g.frame.now told in
    record {
      value = rw (c.if-stopped.false, told, text, ← step, ← put.value) refl;
      out_after = rw (c.if-stopped.false, text, ← step) put.out_after;
      length_in_bounds = rw (put.out_after, put.value, splice-length) (behind-most _ _);
    }
