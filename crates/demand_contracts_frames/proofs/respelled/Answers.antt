-- The re-encoder's answer and buffer are the definition's, of which the demands are proved.
use Prim.Native.Nat.{ℕ}
use mathlib.Core.Path.{◌∙◌}
use mathlib.Core.List.{List}
use Rattle.demands.proofs.OneSpelling.{one_spelling, respelled-refused, respelled-short, respelled_into}
use borrow.Author.Rules.{rules}
use Rattle.demand_contracts_frames.proofs.respelled.Goals as goal

pub returns : goal.returns
returns c =
    let w = c.reencode.ensures in
    let a = c.args in
    let m = a.mode in
    let s = a.bytes.now in
    let out = a.out.now in
    record {
      answer_value = λ r e. let x = respelled-refused m s out r e in (w.value ∙ x.0, w.out_after ∙ x.1);
      answer_value_2 = λ e h. let x = respelled-short m s out e h in (w.value ∙ x.0, w.out_after ∙ x.1);
      answer_value_3 = λ e h. let x = respelled_into m s out e h in (w.value ∙ x.0, w.out_after ∙ x.1);
      respelled = λ e. (one_spelling m s (λ j. search rules)).respelled e;
    }
