-- The content's answer is that of the octets from the control octet on; a refusal is passed on, and what stands before the info is there.
use Rattle.std.proofs.Common.{◌≡◌, ◌∙◌, refl, sym, arith}
use Rattle.std.specs.Prelude.{Ok, drop}
use lib.ListN.{length-drop}
use Rattle.std.proofs.lemmas.Result.{err_from_is_err_and}
use Rattle.octets.proofs.Splice.{part_from}
use Rattle.content.specs.declared.FrameContent.{FrameContent}
use Rattle.parse.specs.Content.{content_of}
use Rattle.parse.proofs.Read.{sized}
use Rattle.decode.specs.Read.{frame_at, with_content, refused_with}
use Rattle.address_field.specs.Field.{framed}
use Rattle.address_field.proofs.Laws.{framed_at}
use Rattle.reading.proofs.decode_content.Goals as goal
use Rattle.reading.proofs.decode_content.Goals.{After-parse_content, After-parse_frame-frame}

-- the content's answer, at the octets from the control octet on
answered : (c : After-parse_content) → content_of c.args.mode (drop c.args.control c.args.bytes.now) ≡ c.parse_content.result
answered c = sym (c.parse_content.ensures ∙ rw part_from refl)

-- the octets hold the groups
held : (c : After-parse_frame-frame) (k : FrameContent) →
    let a = c.args in
    framed a.bytes.now a.count k ≡ frame_at a.bytes.now 0 a.count k
held c =
    framed_at c.args.bytes.now c.args.count c.requires.0 c.requires.1

pub returns-in_err-content : goal.returns-in_err-content
unfolding with_content refused_with
returns-in_err-content c =
    let p = err_from_is_err_and c.from_residual.result c.from_residual.ensures.1 in
    rw (p.1, p.2, answered (goal.at.returns-in_err-content c).After-parse_content, c.in_err-content.was) refl

pub accepted-requires : goal.accepted-requires
unfolding frame_at
accepted-requires c =
    let a = c.args in
    let s = drop a.control a.bytes.now in
    let is : content_of a.mode s ≡ Ok c.parse_frame-frame.result.content =
    answered (goal.at.accepted-requires c).After-parse_content ∙ c.in_ok-content.was ∙ simp (c.parse_frame-frame.ensures, held (goal.at.accepted-requires c).After-parse_frame-frame) in
    omega (arith, length-drop a.control a.bytes.now, (sized a.mode s _ is).1)

pub returns : goal.returns
unfolding with_content
returns c =
    c.accepted.ensures
    ∙ rw (c.parse_frame-frame.ensures, held (goal.at.returns c).After-parse_frame-frame, answered (goal.at.returns c).After-parse_content, c.in_ok-content.was) refl
