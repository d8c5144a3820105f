-- Hearing keeps the counts, so that one more fits.
use Rattle.std.proofs.Common.{sym, ◌∙◌}
use Rattle.link_frame.proofs.Laws.{heard_kept}
use Rattle.link.proofs.Laws.{followed_by_lem}
use Rattle.link.proofs.followed.Goals as goal

pub returns-in_default : goal.returns-in_default
returns-in_default c = c.counted_as.ensures ∙ followed_by_lem _ _ _ (sym c.in_default.is ∙ c.sender_in.ensures)

pub invariant_of-counted_as : goal.invariant_of-counted_as
invariant_of-counted_as c =
    let k = heard_kept c.in-Some.from c.args.frame.content c.args.open.link in
    record {
      counts = rw (c.hear-heard.ensures, k.counts) c.args.open.counts;
      room = rw (c.hear-heard.ensures, k.offered) c.args.open.room;
    }

pub returns : goal.returns
returns c =
    c.counted_as-2.ensures ∙ rw c.hear-heard.ensures (followed_by_lem _ _ _ (sym c.in-Some.is ∙ c.sender_in.ensures))
