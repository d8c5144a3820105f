use Rattle.std.proofs.Common.{sym}
use Rattle.std.proofs.lemmas.List.{append_assoc, append-nil}
use borrow.Author.Tests.{eq-eqb, ne_eqb}
use Rattle.printing.proofs.Laws.{used_le, trimmed-length}
use Rattle.words.proofs.Room.{cut_then}
use Rattle.dump.specs.Text.{address_text, ssid_text}
use Rattle.dump.proofs.append.put_address.Goals as goal

pub slice_bounds-callsign-end : goal.slice_bounds-callsign-end
slice_bounds-callsign-end c = rw c.callsign_length-n.ensures (used_le _)

pub slice_bounds-put_characters-end : goal.slice_bounds-put_characters-end
slice_bounds-put_characters-end c = rw c.callsign_length-n.ensures (sym (trimmed-length _))

pub returns-then-address-ne0 : goal.returns-then-address-ne0
unfolding address_text ssid_text
returns-then-address-ne0 c =
    rw (c.put_number.ensures, c.put_characters.ensures, c.callsign_length-n.ensures, ne_eqb _ _ c.if-address-ne0.true) (simp (cut_then, append_assoc, append-nil))

pub returns-else-address-ne0 : goal.returns-else-address-ne0
unfolding address_text ssid_text
returns-else-address-ne0 c =
    rw (c.put_characters.ensures, c.callsign_length-n.ensures, eq-eqb _ _ c.if-address-ne0.false) (simp append-nil)
