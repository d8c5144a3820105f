-- A part that starts beyond the buffer is not inside, and of another there is room for the length behind the start.
use mathlib.Core.Path.{sym, ◌∙◌}
use borrow.Author.Tests.{lt-leb}
use Rattle.captures.proofs.Laws.{inside_from, starts_beyond}
use Rattle.captures.proofs.is_inside.Goals as goal

pub returns-then-capture-len : goal.returns-then-capture-len
returns-then-capture-len c = inside_from _ _ c.if-capture-len.true

pub returns-else-capture-len : goal.returns-else-capture-len
returns-else-capture-len c = lt-leb _ _ c.if-capture-len.false ∙ sym (starts_beyond _ _ c.if-capture-len.false)
