-- The casts of the flags are their octets.
use Rattle.flat.proofs.Parts.{flag_byte}
use Rattle.flat.proofs.laid.reject.Goals as goal

pub returns : goal.returns
returns c = rw c.response_octet.ensures (simp flag_byte)
