-- A refused part has the default frame. Of an accepted one the outline has the end, and the content behind it, which is accepted too, is the
-- frame's.
use Rattle.std.proofs.Common.{rules, ◌≡◌, ◌∙◌, refl, sym, ap, ℕ, ◌+◌, ◌≤◌, List, length, arith}
use Rattle.std.specs.Prelude.{Ok}
use Rattle.octets.proofs.Splice.{part_from}
use Rattle.control.specs.declared.Mode.{Mode}
use Rattle.frame.specs.declared.Ax25Frame.{Ax25Frame}
use Rattle.decode.specs.Outline.{outline_of}
use Rattle.decode.specs.Read.{decode}
use Rattle.decode.specs.declared.Outline.{Outline}
use Rattle.decode.proofs.Accepts.{accepts}
use Rattle.decode.proofs.Whole.{outlined, not_outlined}
use Rattle.grammar.proofs.Refused.{refused_parts}
use Rattle.grammar.proofs.Parts.{parts}
use Rattle.captures.specs.Capture.{kind_of}
use Rattle.captures.proofs.kind_by.Goals as goal
use Rattle.captures.proofs.kind_by.Goals.{After-parse_content}

-- the address field ends where the outline says, inside the part
ends : (m : Mode) (s : List ℕ) (o : Outline) → Ok o ≡ outline_of m s → o.end + 1 ≤ length s
ends m s o e =
    let t = outlined m s o e in
    rw t.end (omega (arith, (accepts m s t.accepted).end_in))

-- the content that was read is the frame's
content-read : (c : After-parse_content) → c.parse_content.result ≡ Ok (decode c.args.mode c.args.part.now).frame.content
content-read c =
    let t = outlined _ _ _ (sym c.in-Ok.is ∙ c.requires) in
    c.parse_content.ensures ∙ rw (part_from, t.end) (parts _ _ (λ k. search rules) t.accepted).content

pub returns-in_default : goal.returns-in_default
returns-in_default c =
    let r = not_outlined _ _ _ (sym c.in_default.is ∙ c.requires) in
    c.default_kind.ensures ∙ ap (λ (f : Ax25Frame). kind_of f.content) (sym (refused_parts _ _ (rw r refl)).0)

pub overflow_add-control : goal.overflow_add-control
overflow_add-control c = omega (arith, ends _ _ _ (sym c.in-Ok.is ∙ c.requires))

pub slice_bounds-parse_content-count : goal.slice_bounds-parse_content-count
slice_bounds-parse_content-count c = ends _ _ _ (sym c.in-Ok.is ∙ c.requires)

pub slice_bounds-parse_content-start : goal.slice_bounds-parse_content-start
slice_bounds-parse_content-start c = ends _ _ _ (sym c.in-Ok.is ∙ c.requires)

pub unwrap-content-requires : goal.unwrap-content-requires
unwrap-content-requires c = search (rules, content-read (goal.at.unwrap-content-requires c).After-parse_content)

pub returns : goal.returns
returns c = search (rules, content-read (goal.at.returns c).After-parse_content)
