-- The control octets alone.
use borrow.Author.Rules.{rules}
use Rattle.parse.proofs.Judged.{s_is}
use Rattle.parse.proofs.judge_s.Goals as goal

pub returns : goal.returns
returns c = search (rules, s_is)
