use mathlib.Core.Path.{sym}
use Rattle.octets.proofs.Splice.{splice_none}
use Rattle.words.proofs.Room.{behind_none}
use Rattle.following.proofs.Laws.{gap_none, gap_some}
use Rattle.following.proofs.put_gap.Goals as goal

pub returns-then-after-before : goal.returns-then-after-before
returns-then-after-before c =
    let none = gap_none c.args.before c.args.after c.args.frame.now c.if-after-before.true in
    record { out_after = rw none (sym (splice_none _ 0)); value = rw none (sym (behind_none _ 0)) }

pub returns : goal.returns
returns c =
    let some = gap_some c.args.before c.args.after c.args.frame.now c.if-after-before.false in
    record {
      out_after = rw (some, ← c.sender_of.ensures) c.put_gap_line.ensures.out_after;
      value = rw (some, ← c.sender_of.ensures) c.put_gap_line.ensures.value;
    }
