-- So far the first i octets of the part are in their place.
use Rattle.std.proofs.Common.{◌≡◌, ◌+◌, ◌≤◌, length, take}
use Rattle.octets.specs.Splice.{splice}
use Rattle.lent_buffer.proofs.put.Given as goal

abbrev pub invariant-loop-i : goal.invariant-loop-i
invariant-loop-i l = record { room : l.at + length l.part ≤ length l.initial.out; so_far : l.out ≡ splice l.initial.out l.at (take l.i l.part) }
