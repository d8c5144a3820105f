-- The two octets of the PID are what their own functions ensure.
use mathlib.Core.Path.{refl}
use Rattle.flat.proofs.Parts.{flag_byte}
use Rattle.flat.proofs.laid.with_pid.Goals as goal

pub returns : goal.returns
returns c = rw (flag_byte, c.pid_octet-octet.ensures, c.pid_case-case.ensures) refl
