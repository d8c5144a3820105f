-- Each group is spelled again at its place, and the three parts one after the other are the address field.
use Rattle.std.proofs.Common.{rules, ◌≡◌, ◌∙◌, ℕ, ◌+◌, ◌*◌, ◌≤◌, List, length, arith}
use Rattle.std.specs.Prelude.{Ok}
use Rattle.control.specs.declared.Mode.{Mode}
use Rattle.decode.specs.Outline.{outline_of}
use Rattle.decode.specs.declared.Outline.{Outline}
use Rattle.decode.proofs.Whole.{outlined}
use Rattle.octets.proofs.Splice.{splice-length}
use Rattle.grammar.proofs.Marks.{route}
use Rattle.respelling.proofs.Laws.{field-again}
use Rattle.respelling.proofs.put_addresses.Goals as goal

-- the groups stand in the input
inside : (m : Mode) (s : List ℕ) (b : Outline) → Ok b ≡ outline_of m s → (b.route_count ≤ 8) × (14 + 7 * b.route_count ≤ length s)
inside m s b e =
    let t = outlined m s b e in
    let r = route m s t.accepted in
    (rw t.route_count r.few, omega (arith, t.route_count, r.before, r.end_in))

pub bounds-bytes-6 : goal.bounds-bytes-6
bounds-bytes-6 c =
    let h = (inside c.args.mode c.args.bytes.now c.args.outline c.requires.0).1 in
    search rules

pub bounds-bytes-13 : goal.bounds-bytes-13
bounds-bytes-13 c =
    let h = (inside c.args.mode c.args.bytes.now c.args.outline c.requires.0).1 in
    search rules

pub put_route-requires : goal.put_route-requires
put_route-requires c =
    let p = c.requires in
    let i = inside _ _ _ p.0 in
    let one = c.respell.ensures in
    let two = c.respell-2.ensures in
    (i.0, i.1, rw (two, splice-length, one, splice-length) p.1)

pub returns : goal.returns
returns c =
    let p = c.requires in
    let t = outlined _ _ _ p.0 in
    c.put_route.ensures
    ∙ rw (c.respell-2.ensures, c.respell.ensures, c.written_mark-mark.ensures, c.mark_set-from.ensures, c.mark_set-to.ensures, t.route_count)
    (field-again _ _ _ (λ k. search rules) t.accepted (rw (← t.route_count) p.1))
