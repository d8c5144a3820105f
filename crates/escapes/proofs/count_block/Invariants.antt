-- So many so far, and those from here on, are those of the block.
use Rattle.std.proofs.Common.{◌≡◌, ◌+◌, ◌≤◌, drop}
use Rattle.octets.specs.Count.{count}
use Rattle.escapes.specs.Escape.{special}
use Rattle.escapes.proofs.count_block.Given as goal

abbrev pub invariant-loop-octet : goal.invariant-loop-octet
invariant-loop-octet l = (l.found ≤ l.octet-index) × (l.found + count special (drop l.octet-index l.block) ≡ count special l.block)
