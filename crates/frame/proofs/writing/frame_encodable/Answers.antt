-- Destination, source, then the route.
use mathlib.Core.Path.{◌≡◌, sym, ◌∙◌}
use lib.ListN.{take}
use Rattle.std.specs.List.{list_all}
use Rattle.frame.specs.Write.{entry_encodable, route_encodable, frame_encodable}
use Rattle.frame.proofs.Write.{first_encodable}
use borrow.Author.Rules.{rules}
use Rattle.frame.proofs.writing.frame_encodable.Goals as goal
use Rattle.frame.proofs.writing.frame_encodable.Goals.{then-is_encodable, else-is_encodable}

pub returns-then-is_encodable-2 : goal.returns-then-is_encodable-2
unfolding frame_encodable
returns-then-is_encodable-2 c =
    elim c.if-is_encodable.branch [
      | then-is_encodable w ↦
          let f = c.args.frame in
          let first : list_all entry_encodable (take f.route_count f.route) ≡ route_encodable f.route f.route_count = first_encodable f.route f.route_count (search rules) in
          simp (c.route_encodable.ensures, first, sym c.is_encodable.ensures ∙ w.if-is_encodable.true, sym w.is_encodable-then-is_encodable.ensures ∙ sym w.value-is ∙ c.if-is_encodable-2.true)
      | else-is_encodable w ↦ absurd (cc (sym w.value-is ∙ c.if-is_encodable-2.true))
    ]

pub returns-else-is_encodable-2 : goal.returns-else-is_encodable-2
unfolding frame_encodable
returns-else-is_encodable-2 c =
    elim c.if-is_encodable.branch [
      | then-is_encodable w ↦ simp (c.if-is_encodable-2.false, sym c.is_encodable.ensures ∙ w.if-is_encodable.true, sym w.is_encodable-then-is_encodable.ensures ∙ sym w.value-is ∙ c.if-is_encodable-2.false)
      | else-is_encodable w ↦ simp (c.if-is_encodable-2.false, sym c.is_encodable.ensures ∙ w.if-is_encodable.false)
    ]
