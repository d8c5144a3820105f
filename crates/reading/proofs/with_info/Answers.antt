-- A kind that has info has it after the octets before it.
use Rattle.std.proofs.Common.{refl}
use Rattle.decode.specs.Read.{accepted_with}
use Rattle.reading.proofs.with_info.Goals as goal

pub returns : goal.returns
unfolding accepted_with
returns c = rw (c.front_len.ensures, c.requires.0) refl
