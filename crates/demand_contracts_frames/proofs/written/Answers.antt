-- The writer's answer and buffer are the definition's, of which the demands are proved.
use mathlib.Core.Path.{refl, ap, ◌∙◌}
use lib.ListN.{length}
use Rattle.octets.specs.Outcome.{length_of}
use Rattle.frame.specs.Frame.{write_number}
use Rattle.grammar.proofs.Respell.{written_number}
use Rattle.demands.proofs.Numbers.{writing, refused_write, accepted_write}
use Rattle.demand_contracts_frames.proofs.written.Goals as goal

pub returns : goal.returns
returns c =
    let w = c.to_bytes.ensures in
    let a = c.args in
    let room = length a.out.now in
    let e = ap write_number w.value ∙ written_number a.mode a.frame a.info.now room in
    record {
      first_row = rw e ((writing a.mode a.frame a.info.now room _).0 refl);
      length_value = λ n.
          let r = refused_write a.mode a.frame a.info.now room (λ q. n (rw e q)) in
          (ap length_of w.value ∙ r.0, w.out_after ∙ r.1 a.out.now);
      length_value_2 = λ n.
          let r = accepted_write a.mode a.frame a.info.now a.out.now (rw e at n) in
          (ap length_of w.value ∙ r.0, w.out_after ∙ r.1);
    }
