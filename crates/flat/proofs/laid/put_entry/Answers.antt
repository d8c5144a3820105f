-- The nine octets are the address and its mark.
use Rattle.std.proofs.Common.{◌∙◌, refl}
use Rattle.flat.proofs.Parts.{flag_byte}
use Rattle.flat.proofs.laid.put_entry.Goals as goal

pub returns : goal.returns
returns c = c.put.ensures ∙ rw (c.from-mark.ensures, flag_byte) refl
