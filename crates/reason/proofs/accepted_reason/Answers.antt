-- Each test as the definition has it.
use mathlib.Core.Path.{◌∙◌}
use Rattle.octets.proofs.Splice.{part_from}
use Rattle.reason.specs.Reason.{accepted_reason}
use Rattle.reason.proofs.accepted_reason.Goals as goal

pub returns : goal.returns
unfolding accepted_reason
returns c =
    c.first_of.ensures
    ∙ simp (
      c.is_tidy.ensures,
      c.has_tail.ensures,
      c.is_marked.ensures,
      c.mark_set-from.ensures,
      c.mark_set-to.ensures,
      part_from,
    )
