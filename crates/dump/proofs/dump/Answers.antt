-- The page holds all of the text, and is written as a whole.
use Rattle.std.proofs.Common.{◌≡◌, ◌∙◌, rules}
use Rattle.octets.specs.Octet.{Octets}
use Rattle.octets.proofs.Splice.{splice-length}
use Rattle.words.proofs.Room.{cut_none}
use Rattle.dump.specs.Dump.{dump_text}
use Rattle.dump.proofs.Short.{dump-short}
use Rattle.dump.proofs.Laws.{written, within}
use Rattle.dump.proofs.dump.Goals as goal
use Rattle.dump.proofs.dump.Goals.{After-put_dump}

text : (c : After-put_dump) → c.put_dump.new.page ≡ dump_text c.args.input.now
text c =
    let octets : Octets c.args.input.now = search rules in
    rw (c.put_dump.ensures, c.new-page.ensures) (cut_none _ _ (dump-short c.args.input.now octets))

pub returns : goal.returns
returns c =
    let all = text (goal.at.returns c).After-put_dump in
    let value = c.ok_or.ensures.value ∙ rw (c.write_to.ensures.value, all) (written _ _) in
    record {
      value = value;
      out_after = rw (← all) c.write_to.ensures.out_after;
      length_in_bounds = rw (value, c.write_to.ensures.out_after, splice-length) (within _ _);
    }
