use Rattle.std.proofs.Common.{◌≡◌, ◌++◌, take}
use Rattle.words.specs.Room.{cut}
use Rattle.dump.specs.Text.{characters}
use Rattle.dump.proofs.append.put_characters.Given as goal

abbrev pub invariant-loop-c : goal.invariant-loop-c
invariant-loop-c l = l.page ≡ cut 512 (l.fn.page ++ (l.key ++ characters (take l.c-index l.text)))
