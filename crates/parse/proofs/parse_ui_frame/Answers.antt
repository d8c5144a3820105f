-- The PID of the second octet and the P/F bit of the first, of content that is not refused.
use mathlib.Core.Path.{refl}
use borrow.Author.Rules.{rules}
use Rattle.control.proofs.Masks.{poll_mask}
use Rattle.parse.proofs.Judged.{ui_ok}
use Rattle.parse.proofs.parse_ui_frame.Goals as goal

pub bounds-bytes-0 : goal.bounds-bytes-0
bounds-bytes-0 c = search (rules, ui_ok)

pub bounds-bytes-1 : goal.bounds-bytes-1
bounds-bytes-1 c = search (rules, ui_ok)

pub returns : goal.returns
returns c = rw ((ui_ok c.args.bytes.now (search rules)).1, c.from_byte-pid.ensures, poll_mask) refl
