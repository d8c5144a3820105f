-- By whether the kind has info.
use Rattle.std.proofs.Common.{◌∙◌, refl, sym}
use Rattle.decode.specs.Read.{accepted_with}
use Rattle.reading.proofs.without_pid.Goals as goal

pub returns : goal.returns
unfolding accepted_with
returns c = rw (sym c.has_info.ensures ∙ c.if-has_info.false) refl
