-- A refusal writes nothing; else the octets before the info, and then the info.
use mathlib.Core.Path.{◌≡◌, ◌∙◌}
use lib.ListN.{length}
use Rattle.std.specs.Prelude.{Ok}
use Rattle.octets.proofs.Splice.{splice_none}
use Rattle.encoding.specs.Encode.{answer_of}
use Rattle.encoding.proofs.Laws.{judged_room, info-after}
use borrow.Author.Rules.{rules}
use Rattle.encoding.proofs.encode.Goals as goal

pub returns-in_err-judge-clause-out_after : goal.returns-in_err-judge-clause-out_after
returns-in_err-judge-clause-out_after c = search (rules, splice_none)

pub returns-clause-out_after : goal.returns-clause-out_after
returns-clause-out_after c =
    let a = c.args in
    let is : answer_of a.mode a.content (length a.info.now) (length a.out.now) ≡ Ok tt = search rules in
    c.put.ensures
    ∙ rw (c.put_front-n.ensures.out_after, c.put_front-n.ensures.value, is)
    (info-after a.out.now a.mode a.content a.info.now (judged_room _ _ _ _ _ is))
