-- `from_parts` tests for octets of 128 or more, and reads the rest as `read_callsign` does.
use mathlib.Core.Path.{sym, ◌∙◌}
use Rattle.text.specs.Text.{read_parts}
use Rattle.text.proofs.from_parts.Goals as goal

pub returns-then-not-is_ascii : goal.returns-then-not-is_ascii
unfolding read_parts
returns-then-not-is_ascii c = simp (sym c.is_ascii.ensures ∙ c.if-not-is_ascii.true)

pub returns : goal.returns
unfolding read_parts
returns c = simp (sym c.is_ascii.ensures ∙ c.if-not-is_ascii.false) c.read_callsign.ensures
