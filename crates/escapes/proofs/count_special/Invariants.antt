-- So many so far, and those of the rest, are those of the whole.
use Rattle.std.proofs.Common.{◌≡◌, ◌+◌, ◌≤◌, length, drop}
use Rattle.octets.specs.Count.{count}
use Rattle.escapes.specs.Escape.{special}
use Rattle.escapes.proofs.count_special.Given as goal

abbrev pub invariant-loop-block : goal.invariant-loop-block
invariant-loop-block l = (l.found + length l.rest ≤ length l.bytes) × (l.found + count special l.rest ≡ count special l.bytes)

abbrev pub decreases-loop-block : goal.decreases-loop-block
decreases-loop-block l = length l.rest

abbrev pub invariant-loop-octet : goal.invariant-loop-octet
invariant-loop-octet l =
    (l.found + length (drop l.octet-index l.octet-items) ≤ length l.bytes) × (l.found + count special (drop l.octet-index l.octet-items) ≡ count special l.bytes)
