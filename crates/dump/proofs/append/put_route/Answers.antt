use Rattle.std.proofs.Common.{refl}
use Rattle.std.proofs.lemmas.List.{append_assoc, append-nil}
use borrow.Author.Tests.{eq-eqb, ne_eqb}
use Rattle.words.proofs.Room.{cut_then}
use Rattle.dump.specs.Text.{route_text}
use Rattle.dump.proofs.Laws.{route_next}
use Rattle.dump.proofs.append.put_route.Goals as goal
use Rattle.dump.proofs.append.put_route.Goals.{then-i-eq0, else-i-eq0}

pub loop-i-init : goal.loop-i-init
unfolding route_text
loop-i-init c = rw (c.put.ensures, append-nil) refl

pub loop-i-preserved : goal.loop-i-preserved
loop-i-preserved c = elim c.if-i-eq0.branch [
  | then-i-eq0 w ↦ rw (c.put_entry.ensures, c.loop-i.invariant, w.comma-is, route_next, eq-eqb _ _ w.if-i-eq0.true) (simp (cut_then, append_assoc))
  | else-i-eq0 w ↦ rw (c.put_entry.ensures, c.loop-i.invariant, w.comma-is, route_next, ne_eqb _ _ w.if-i-eq0.false) (simp (cut_then, append_assoc))
]
