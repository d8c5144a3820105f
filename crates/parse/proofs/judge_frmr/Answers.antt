-- By the mode, and in the short one by the length.
use borrow.Author.Rules.{rules}
use Rattle.parse.specs.Content.{frmr_of}
use Rattle.parse.proofs.judge_frmr.Goals as goal

pub returns-then-bytes-eq-FRMR_LENGTH : goal.returns-then-bytes-eq-FRMR_LENGTH
unfolding frmr_of
returns-then-bytes-eq-FRMR_LENGTH c = search rules

pub returns-else-bytes-eq-FRMR_LENGTH : goal.returns-else-bytes-eq-FRMR_LENGTH
unfolding frmr_of
returns-else-bytes-eq-FRMR_LENGTH c = search rules

pub returns-in-Long : goal.returns-in-Long
unfolding frmr_of
returns-in-Long c = search rules
