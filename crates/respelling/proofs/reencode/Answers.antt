-- A refused input is answered with its refusal; an accepted one is written whole where there is room.
use Rattle.std.proofs.Common.{rules, ◌≡◌, ◌∙◌, refl, sym, ℕ, ◌+◌, ◌-◌, ◌*◌, length, arith}
use Rattle.std.specs.Prelude.{Ok}
use Rattle.octets.specs.Octet.{Octets}
use Rattle.content.specs.declared.FrameContent.{FrameContent}
use Rattle.decode.specs.Outline.{outline_of}
use Rattle.decode.specs.Read.{decode}
use Rattle.decode.proofs.Whole.{Outlined, outlined, not_outlined}
use Rattle.grammar.specs.Kept.{kept_of}
use Rattle.grammar.proofs.Marks.{Route, route}
use Rattle.respelling.specs.Reencode.{due}
use Rattle.std.proofs.lemmas.Result.{err_from_is_err_and}
use Rattle.octets.proofs.Splice.{splice_none}
use Rattle.respelling.proofs.Laws.{due-length, due_fits, due-again, refused_answer, again-short, again_fits}
use Rattle.respelling.proofs.reencode.Goals as goal
use Rattle.respelling.proofs.reencode.Goals.{In_ok-outline}

tied : (c : In_ok-outline) → Ok c.in_ok-outline.outline ≡ outline_of c.args.mode c.args.bytes.now
tied c = sym c.in_ok-outline.was ∙ c.outline_of.ensures

-- what the outline tells
told : (c : In_ok-outline) → Outlined c.args.mode c.args.bytes.now c.in_ok-outline.outline
told c = outlined _ _ _ (tied c)

-- where its parts stand
within : (c : In_ok-outline) → Route c.args.bytes.now (decode c.args.mode c.args.bytes.now)
within c = route _ _ (told c).accepted

octets : (c : In_ok-outline) → Octets c.args.bytes.now
octets c k = search rules

-- the sum is the length
whole : (c : In_ok-outline) (k : FrameContent) (n : ℕ) → k ≡ (decode c.args.mode c.args.bytes.now).frame.content
    → n ≡ kept_of c.args.mode k (length c.args.bytes.now - (c.in_ok-outline.outline.end + 1))
    → 14 + 7 * c.in_ok-outline.outline.route_count + n ≡ length (due c.args.mode c.args.bytes.now)
whole c k n p q = due-length _ _ _ _ _ (octets c) (tied c) p q

pub returns-in_err-outline : goal.returns-in_err-outline
returns-in_err-outline c =
    let g = c.args in
    let p = err_from_is_err_and c.from_residual.result c.from_residual.ensures.1 in
    let a = refused_answer g.mode g.bytes.now (length g.out.now) _ (not_outlined _ _ _ (sym c.in_err-outline.was ∙ c.outline_of.ensures)) in
    record { value = rw (p.1, p.2) (sym a.0); out_after = sym (rw a.1 (splice_none _ _)) }

pub overflow_add-control : goal.overflow_add-control
overflow_add-control c =
    let i = (goal.at.overflow_add-control c).In_ok-outline in
    omega (arith, (told i).end, (within i).end_in)

pub content_at-content-requires : goal.content_at-content-requires
content_at-content-requires c = tied (goal.at.content_at-content-requires c).In_ok-outline

pub overflow_sub-bytes : goal.overflow_sub-bytes
overflow_sub-bytes c =
    let i = (goal.at.overflow_sub-bytes c).In_ok-outline in
    omega (arith, (told i).end, (within i).end_in)

pub overflow_mul-length : goal.overflow_mul-length
overflow_mul-length c =
    let i = (goal.at.overflow_mul-length c).In_ok-outline in
    omega (arith, (told i).route_count, (within i).few)

pub overflow_add-length : goal.overflow_add-length
overflow_add-length c =
    let i = (goal.at.overflow_add-length c).In_ok-outline in
    omega (arith, (told i).route_count, (within i).few)

pub overflow_add-length-2 : goal.overflow_add-length-2
overflow_add-length-2 c =
    let i = (goal.at.overflow_add-length-2 c).In_ok-outline in
    omega (arith, whole i _ _ c.content_at-content.ensures c.kept_of-kept.ensures, due_fits _ _ (octets i) (told i).accepted)

pub returns-then-out-length : goal.returns-then-out-length
returns-then-out-length c =
    let g = c.args in
    let i = (goal.at.returns-then-out-length c).In_ok-outline in
    let e = (told i).accepted in
    let short = rw (due-again _ _ e) at (whole i _ _ c.content_at-content.ensures c.kept_of-kept.ensures) in
    let a = again-short _ g.bytes.now (length g.out.now) e (omega (arith, short, c.if-out-length.true)) in
    record { value = sym a.0; out_after = sym (rw a.1 (splice_none _ _)) }

pub put_due-requires : goal.put_due-requires
put_due-requires c =
    let i = (goal.at.put_due-requires c).In_ok-outline in
    let n = c.kept_of-kept.ensures in
    (tied i, c.content_at-content.ensures, rw (told i).end at n, omega (arith, whole i _ _ c.content_at-content.ensures c.kept_of-kept.ensures, c.if-out-length.false))

pub returns : goal.returns
returns c =
    let g = c.args in
    let i = (goal.at.returns c).In_ok-outline in
    let e = (told i).accepted in
    let sum = rw (due-again _ _ e) at (whole i _ _ c.content_at-content.ensures c.kept_of-kept.ensures) in
    let a = again_fits _ g.bytes.now (length g.out.now) e (omega (arith, sum, c.if-out-length.false)) in
    record { value = rw sum (sym a.0); out_after = c.put_due.ensures ∙ rw (due-again _ _ e, a.1) refl }
