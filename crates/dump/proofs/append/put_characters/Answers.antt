use Rattle.std.proofs.Common.{refl}
use Rattle.std.proofs.lemmas.List.{append_assoc, append-nil}
use Rattle.words.proofs.Room.{cut_then}
use Rattle.dump.specs.Text.{characters}
use Rattle.dump.proofs.Laws.{characters_next}
use Rattle.dump.proofs.append.put_characters.Goals as goal

pub loop-c-init : goal.loop-c-init
unfolding characters
loop-c-init c = rw (c.put.ensures, append-nil) refl

pub loop-c-preserved : goal.loop-c-preserved
loop-c-preserved c =
    rw (c.put_character.ensures, c.loop-c.invariant, characters_next _ _ c.loop-c-test.true) (simp (cut_then, append_assoc))
