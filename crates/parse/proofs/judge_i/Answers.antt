-- First the control octets, then the PID.
use borrow.Author.Rules.{rules}
use Rattle.parse.proofs.Judged.{i_is}
use Rattle.parse.proofs.judge_i.Goals as goal

pub returns-in_err-judge_control : goal.returns-in_err-judge_control
returns-in_err-judge_control c = search (rules, i_is)

pub returns : goal.returns
returns c = search (rules, i_is)
