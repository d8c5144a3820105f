use Rattle.std.proofs.Common.{refl, ◌∙◌}
use Rattle.words.specs.Words.{character}
use Rattle.std.proofs.lemmas.List.{append_assoc}
use Rattle.words.proofs.Room.{cut_then}
use Rattle.words.proofs.page.Page.put_character.Goals as goal

pub returns-then-is_alphanumeric : goal.returns-then-is_alphanumeric
unfolding character
returns-then-is_alphanumeric g c = c.put.ensures ∙ rw (← c.is_alphanumeric.ensures, c.if-is_alphanumeric.true) refl

pub returns-else-is_alphanumeric : goal.returns-else-is_alphanumeric
unfolding character
returns-else-is_alphanumeric g c =
    rw (c.put-else-is_alphanumeric-2.ensures, c.put-else-is_alphanumeric.ensures, c.hex.ensures, cut_then, append_assoc, ← c.is_alphanumeric.ensures, c.if-is_alphanumeric.false) refl
