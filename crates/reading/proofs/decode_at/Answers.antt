-- The frame goes on where the octets hold what the outline tells of.
use Rattle.std.proofs.Common.{◌≡◌, ◌∙◌, refl, sym, arith, ◌+◌, ◌*◌, ◌≤◌, length}
use Rattle.std.specs.Prelude.{true}
use Rattle.decode.specs.Read.{refused_with}
use Rattle.decode.specs.Outline.{holds, decode_at}
use Rattle.decode.proofs.Whole.{room}
use Rattle.reading.proofs.decode_at.Goals as goal
use Rattle.reading.proofs.decode_at.Goals.{Else-not-holds}

inside : (c : Else-not-holds) →
    let a = c.args in
    holds (length a.bytes.now) a.outline.end a.outline.route_count ≡ true
inside c = sym c.holds.ensures ∙ c.if-not-holds.false

within : (c : Else-not-holds) →
    let a = c.args in
    (a.outline.route_count ≤ 8)
    × (14 + 7 * a.outline.route_count ≤ length a.bytes.now)
    × (a.outline.end + 1 ≤ length a.bytes.now)
within c = room _ _ _ (inside c)

pub returns-then-not-holds : goal.returns-then-not-holds
unfolding decode_at refused_with
returns-then-not-holds c = rw (sym c.holds.ensures ∙ c.if-not-holds.true) refl

pub overflow_add-outline : goal.overflow_add-outline
overflow_add-outline c = omega (arith, (within (goal.at.overflow_add-outline c).Else-not-holds).2)

pub decode_content-requires : goal.decode_content-requires
decode_content-requires c = within (goal.at.decode_content-requires c).Else-not-holds

pub returns : goal.returns
unfolding decode_at
returns c = c.decode_content.ensures ∙ rw (inside (goal.at.returns c).Else-not-holds) refl
