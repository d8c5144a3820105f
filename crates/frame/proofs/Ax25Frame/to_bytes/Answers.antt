-- A refusal writes nothing; else the frame is put.
use mathlib.Core.Path.{◌≡◌, ◌∙◌}
use borrow.Author.Rules.{rules}
use lib.ListN.{length}
use Rattle.std.specs.Prelude.{Ok}
use Rattle.octets.proofs.Splice.{splice_none}
use Rattle.frame.specs.Write.{write_answer, octets_written, written}
use Rattle.frame.proofs.Write.{accepted_taken}
use Rattle.frame.proofs.Ax25Frame.to_bytes.Goals as goal
use Rattle.frame.proofs.Ax25Frame.to_bytes.Goals.{In_ok-judge}

pub returns-in_err-judge-clause-value : goal.returns-in_err-judge-clause-value
unfolding written
returns-in_err-judge-clause-value c = search rules

pub returns-in_err-judge-clause-out_after : goal.returns-in_err-judge-clause-out_after
unfolding octets_written
returns-in_err-judge-clause-out_after c = search (rules, splice_none)

-- nothing is refused
taken : (c : In_ok-judge) → let a = c.args in write_answer a.mode a.self a.info.now (length a.out.now) ≡ Ok tt
taken c = search rules

pub put_frame-requires : goal.put_frame-requires
put_frame-requires c = accepted_taken _ _ _ _ (taken (goal.at.put_frame-requires c).In_ok-judge)

pub returns-clause-value : goal.returns-clause-value
unfolding written
returns-clause-value c = simp (taken (goal.at.returns-clause-value c).In_ok-judge, c.put_frame.ensures.value)

pub returns-clause-out_after : goal.returns-clause-out_after
unfolding octets_written
returns-clause-out_after c = c.put_frame.ensures.out_after ∙ simp (taken (goal.at.returns-clause-out_after c).In_ok-judge)
