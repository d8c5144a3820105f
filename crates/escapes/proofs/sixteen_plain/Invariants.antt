-- So far none has been met, or one has.
use Rattle.std.proofs.Common.{◌≡◌}
use Rattle.octets.proofs.Among.{met}
use Rattle.escapes.specs.Escape.{special}
use Rattle.escapes.proofs.sixteen_plain.Given as goal

abbrev pub invariant-loop-octet : goal.invariant-loop-octet
invariant-loop-octet l = l.found ≡ (met special l.block l.octet-index)
