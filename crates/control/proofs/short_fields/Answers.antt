-- Each mask and shift takes a field.
use mathlib.Core.Path.{refl}
use Rattle.control.proofs.Masks.{receive_mask, send_mask, poll_mask}
use Rattle.control.proofs.short_fields.Goals as goal

pub returns : goal.returns
returns c = let n = c.args.c in rw (receive_mask n, send_mask n, poll_mask n) refl
