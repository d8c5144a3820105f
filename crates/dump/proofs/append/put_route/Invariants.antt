use Rattle.std.proofs.Common.{◌≡◌, ◌++◌}
use Rattle.words.specs.Room.{cut}
use Rattle.dump.specs.Text.{route_text}
use Rattle.dump.proofs.append.put_route.Given as goal

abbrev pub invariant-loop-i : goal.invariant-loop-i
invariant-loop-i l = l.page ≡ cut 512 (l.fn.page ++ (l.key ++ route_text l.route l.i))
