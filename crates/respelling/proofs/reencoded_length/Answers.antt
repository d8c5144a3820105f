-- Nothing of a refused input; of an accepted one the address field and what is kept of the content.
use Rattle.std.proofs.Common.{rules, ◌≡◌, ◌∙◌, refl, sym, ap, ℕ, ◌+◌, ◌-◌, ◌*◌, length, arith}
use Rattle.std.specs.Prelude.{Ok}
use Rattle.octets.specs.Octet.{Octets}
use Rattle.content.specs.declared.FrameContent.{FrameContent}
use Rattle.decode.specs.Outline.{outline_of}
use Rattle.decode.specs.Read.{decode}
use Rattle.decode.proofs.Whole.{Outlined, outlined, not_outlined}
use Rattle.grammar.specs.Kept.{kept_of}
use Rattle.grammar.proofs.Marks.{Route, route}
use Rattle.respelling.specs.Reencode.{due}
use Rattle.respelling.proofs.Laws.{due-refused, due-length, due_fits}
use Rattle.respelling.proofs.reencoded_length.Goals as goal
use Rattle.respelling.proofs.reencoded_length.Goals.{In-Ok}

tied : (c : In-Ok) → Ok c.in-Ok.outline ≡ outline_of c.args.mode c.args.bytes.now
tied c = sym c.in-Ok.is ∙ c.outline_of.ensures

-- what the outline tells
told : (c : In-Ok) → Outlined c.args.mode c.args.bytes.now c.in-Ok.outline
told c = outlined _ _ _ (tied c)

-- where its parts stand
within : (c : In-Ok) → Route c.args.bytes.now (decode c.args.mode c.args.bytes.now)
within c = route _ _ (told c).accepted

octets : (c : In-Ok) → Octets c.args.bytes.now
octets c k = search rules

-- the sum is the length
whole : (c : In-Ok) (k : FrameContent) (n : ℕ) → k ≡ (decode c.args.mode c.args.bytes.now).frame.content
    → n ≡ kept_of c.args.mode k (length c.args.bytes.now - (c.in-Ok.outline.end + 1))
    → 14 + 7 * c.in-Ok.outline.route_count + n ≡ length (due c.args.mode c.args.bytes.now)
whole c k n p q = due-length _ _ _ _ _ (octets c) (tied c) p q

pub returns-in_default : goal.returns-in_default
returns-in_default c =
    let r = not_outlined _ _ _ (sym c.in_default.is ∙ c.outline_of.ensures) in
    sym (ap length (due-refused _ _ (rw r refl)))

pub overflow_add-control : goal.overflow_add-control
overflow_add-control c =
    let i = (goal.at.overflow_add-control c).In-Ok in
    omega (arith, (told i).end, (within i).end_in)

pub content_at-content-requires : goal.content_at-content-requires
content_at-content-requires c = tied (goal.at.content_at-content-requires c).In-Ok

pub overflow_mul-result : goal.overflow_mul-result
overflow_mul-result c =
    let i = (goal.at.overflow_mul-result c).In-Ok in
    omega (arith, (told i).route_count, (within i).few)

pub overflow_add-result : goal.overflow_add-result
overflow_add-result c =
    let i = (goal.at.overflow_add-result c).In-Ok in
    omega (arith, (told i).route_count, (within i).few)

pub overflow_sub-bytes : goal.overflow_sub-bytes
overflow_sub-bytes c =
    let i = (goal.at.overflow_sub-bytes c).In-Ok in
    omega (arith, (told i).end, (within i).end_in)

pub overflow_add-result-2 : goal.overflow_add-result-2
overflow_add-result-2 c =
    let i = (goal.at.overflow_add-result-2 c).In-Ok in
    omega (arith, whole i _ _ c.content_at-content.ensures c.kept_of.ensures, due_fits _ _ (octets i) (told i).accepted)

pub returns : goal.returns
returns c = whole (goal.at.returns c).In-Ok _ _ c.content_at-content.ensures c.kept_of.ensures
