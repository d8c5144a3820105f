-- No reason is given exactly of canonical input.
use mathlib.Core.Path.{◌≡◌, ap, sym, ◌∙◌}
use Rattle.reason.specs.Reason.{is_none}
use Rattle.reason.proofs.Laws.{told_some}
use Rattle.spelling.specs.Canonical.{canonical}
use Rattle.spelling.proofs.Laws.{canonical_none}
use borrow.Author.Rules.{rules}
use Rattle.spelling.proofs.is_canonical.Goals as goal
use Rattle.spelling.proofs.is_canonical.Goals.{After-reason_of-reason}

told : (c : After-reason_of-reason) → let a = c.args in is_none c.reason_of-reason.result ≡ canonical a.mode a.bytes.now
told c = ap is_none c.reason_of-reason.ensures ∙ sym (canonical_none _ _ (λ k. search rules))

pub returns-in_default : goal.returns-in_default
returns-in_default c = sym (told_some c.reason_of-reason.result c.in_default.not-None) ∙ told (goal.at.returns-in_default c).After-reason_of-reason

pub returns : goal.returns
returns c = sym (ap is_none c.in-None.is) ∙ told (goal.at.returns c).After-reason_of-reason
