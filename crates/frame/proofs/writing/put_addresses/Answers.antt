-- Each group is written at its place, and the three parts one after the other are the address field.
use mathlib.Core.Path.{◌≡◌, ◌∙◌}
use native.Mathlib.Omega.{arith}
use lib.ListN.{length, take}
use Rattle.octets.proofs.Splice.{splice-length}
use Rattle.placing.proofs.Laws.{put_taken}
use Rattle.frame.proofs.Write.{frame_each, marks_differ, field_put, first_encodable, groups_first}
use borrow.Author.Rules.{rules}
use Rattle.frame.proofs.writing.put_addresses.Goals as goal

pub put_route-requires : goal.put_route-requires
put_route-requires c =
    let p = c.requires in
    let f = c.args.frame in
    let one = c.put.ensures.out_after in
    let two = c.put-2.ensures.out_after in
    let n : length (take f.route_count f.route) ≡ f.route_count = search rules in
    (rw (n, two, splice-length, one, splice-length) p.1, first_encodable f.route f.route_count (search rules) ∙ (frame_each _ p.2).2)

pub returns : goal.returns
returns c =
    let m = c.destination_mark-to.ensures in
    let p = c.requires in
    let f = c.args.frame in
    let t = frame_each _ p.2 in
    let n : length (take f.route_count f.route) ≡ f.route_count = search rules in
    c.put_route.ensures
    ∙ rw (n, groups_first f.route f.route_count f.route_count f.route_count (omega arith), c.put-2.ensures.out_after, c.put.ensures.out_after, put_taken _ _ _ t.0, put_taken _ _ _ t.1, m, ← marks_differ _)
    (field_put _ _ p.1)
