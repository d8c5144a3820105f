-- So far none has been met, or one has.
use Rattle.std.proofs.Common.{◌≡◌}
use Rattle.octets.proofs.Among.{met}
use Rattle.search.specs.Search.{masked}
use Rattle.search.proofs.is_clear.Given as goal

abbrev pub invariant-loop-octet : goal.invariant-loop-octet
invariant-loop-octet l = l.found ≡ (met (masked l.mask) l.eight l.octet-index)
