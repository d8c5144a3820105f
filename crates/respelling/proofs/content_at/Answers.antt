-- The content's answer is that of the octets from the control octet on, which an accepted input has accepted.
use Rattle.std.proofs.Common.{rules, ◌≡◌, ◌∙◌, ℕ, ◌+◌, ◌≤◌, List, length, arith}
use Rattle.std.specs.Prelude.{Ok}
use Rattle.control.specs.declared.Mode.{Mode}
use Rattle.octets.proofs.Splice.{part_from}
use Rattle.decode.specs.Read.{decode}
use Rattle.decode.specs.Outline.{outline_of}
use Rattle.decode.specs.declared.Outline.{Outline}
use Rattle.decode.proofs.Whole.{outlined}
use Rattle.grammar.proofs.Parts.{parts}
use Rattle.grammar.proofs.Marks.{route}
use Rattle.respelling.proofs.content_at.Goals as goal
use Rattle.respelling.proofs.content_at.Goals.{After-parse_content}

inside : (m : Mode) (s : List ℕ) (b : Outline) → Ok b ≡ outline_of m s → b.end + 1 ≤ length s
inside m s b e =
    let t = outlined m s b e in
    omega (arith, t.end, (route m s t.accepted).end_in)

-- what parsing answers
answered : (c : After-parse_content) → c.parse_content.result ≡ Ok (decode c.args.mode c.args.bytes.now).frame.content
answered c =
    let t = outlined _ _ _ c.requires in
    let p = parts _ _ (λ n. search rules) t.accepted in
    c.parse_content.ensures ∙ rw (part_from, t.end) p.content

pub overflow_add-outline : goal.overflow_add-outline
overflow_add-outline c = omega (arith, inside _ _ _ c.requires)

pub slice_bounds-parse_content-count : goal.slice_bounds-parse_content-count
slice_bounds-parse_content-count c = inside _ _ _ c.requires

pub slice_bounds-parse_content-start : goal.slice_bounds-parse_content-start
slice_bounds-parse_content-start c =
    let h = inside c.args.mode c.args.bytes.now c.args.outline c.requires in
    search rules

pub unwrap-requires : goal.unwrap-requires
unwrap-requires c = search (rules, answered (goal.at.unwrap-requires c).After-parse_content)

pub returns : goal.returns
returns c = search (rules, answered (goal.at.returns c).After-parse_content)
