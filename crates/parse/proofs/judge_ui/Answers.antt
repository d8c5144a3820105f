-- The PID alone.
use borrow.Author.Rules.{rules}
use Rattle.parse.specs.Content.{ui_of}
use Rattle.parse.proofs.judge_ui.Goals as goal

pub returns : goal.returns
unfolding ui_of
returns c = search rules
