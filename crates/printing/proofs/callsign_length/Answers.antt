-- `callsign_length` is one more than the place of the last character that is no space, or 0.
use Rattle.std.proofs.Common.{sym}
use Rattle.printing.proofs.Laws.{used_none, used_last}
use Rattle.printing.proofs.callsign_length.Goals as goal

pub returns-in-Some : goal.returns-in-Some
returns-in-Some c =
    let last = c.in-Some.ensures in
    sym (used_last c.args.callsign.now c.in-Some.last last.0 last.1 last.2)

pub returns-in-None : goal.returns-in-None
returns-in-None c = sym (used_none c.args.callsign.now c.in-None.ensures)
