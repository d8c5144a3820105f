use Rattle.std.proofs.lemmas.List.{append_assoc, append-nil}
use Rattle.words.proofs.Room.{cut_then}
use Rattle.dump.specs.Text.{entry_text}
use Rattle.dump.proofs.append.put_entry.Goals as goal

pub returns-then-entry : goal.returns-then-entry
unfolding entry_text
returns-then-entry c = rw (c.put.ensures, c.put_address.ensures, c.if-entry.true) (simp (cut_then, append_assoc))

pub returns-else-entry : goal.returns-else-entry
unfolding entry_text
returns-else-entry c = rw (c.put_address.ensures, c.if-entry.false) (simp append-nil)
