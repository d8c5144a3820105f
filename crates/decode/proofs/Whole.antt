-- The outline and the whole: what the first octet decides, the content's answer by its number, and what an accepted outline tells.
use Prim.Native.Nat.{ℕ, ◌+◌, ◌*◌, ◌≤◌, ◌<◌}
use mathlib.Core.Path.{◌≡◌, refl, ap, sym}
use mathlib.Core.Bool.{true, false, cond}
use Rattle.std.specs.Prelude.{Result, Ok, Err}
use mathlib.Core.List.{List}
use native.Mathlib.Omega.{arith}
use borrow.Author.Tests.{ne_eqb, eqb-false, lt-ltb, le-leb, ltb-true, leb-true}
use lib.Dec.{eqb, ltb, leb}
use lib.ListN.{length, get_or, drop}
use Rattle.octets.proofs.Choice.{by, both}
use Rattle.octets.proofs.First.{first_le}
use Rattle.control.specs.declared.Mode.{Mode}
use Rattle.parse.specs.Content.{content_of, judged}
use Rattle.content.specs.declared.FrameContent.{FrameContent}
use Rattle.parse.specs.declared.ContentError.{ContentError}
use Rattle.decode.specs.Answer.{is_accepted, answer_with}
use Rattle.decode.specs.Read.{Decoding, nonzero, start_of, end_of, frame_at, refused_with, accepted_with, error_of, refusal_of, with_content, decode_field, decode}
use Rattle.decode.specs.Outline.{null_error, outline_by, outline_of, holds, decode_at, decode_by}
use Rattle.decode.specs.declared.DecodeError.{DecodeError}
use Rattle.decode.specs.declared.DecodeError.TheVariants as error
use Rattle.decode.specs.declared.Outline.{Outline}
use Rattle.decode.proofs.Read.{some_first, start_first, start-past, told_ok, told_err}
use Rattle.decode.proofs.Accepts.{accepts}
use Rattle.decode.proofs.Refusals.{refused_is}

-- octets that do not start with a null, and those that do or are none
pub first-decode : (m : Mode) (s : List ℕ) → nonzero (get_or s 0 0) ≡ true
    → decode m s ≡ cond (eqb (end_of s) (length s)) (refused_with (Err error.NoEndToAddressField)) (decode_field m s 0 (end_of s))
unfolding decode
first-decode m s e = rw (start_first s e) (simp (ne_eqb 0 (length s) (λ z. omega (arith, z, some_first s e))))

pub null-decode : (m : Mode) (s : List ℕ) → nonzero (get_or s 0 0) ≡ false → decode m s ≡ refused_with (Err (null_error s))
unfolding decode
null-decode m s e =
    by (eqb (start_of s) (length s))
    (λ n. rw n refl)
    (λ n. rw (n, start-past s (omega (arith, eqb-false (start_of s) (length s) n, first_le nonzero s)), e) refl)

-- the outline of a refusal is the refusal
pub outline-refused : (end : ℕ) (r : DecodeError) → Err r ≡ outline_by end (refused_with (Err r))
unfolding refused_with
outline-refused end r = refl

-- so that the outline is refused
pub null_outline : (m : Mode) (s : List ℕ) → nonzero (get_or s 0 0) ≡ false → Err (null_error s) ≡ outline_of m s
null_outline m s e = rw (null-decode m s e) (outline-refused (end_of s) (null_error s))

-- content that is accepted leaves the count as it was, and a refusal of it is the outline's
pub content_outline : (m : Mode) (s : List ℕ) (start end n control : ℕ) (a : Result FrameContent ContentError)
    → outline_by end (with_content m s start n control a) ≡ answer_with (refusal_of a) (record { end = end; route_count = n })
unfolding with_content accepted_with refused_with frame_at
content_outline m s start end n control (Ok k) = refl
content_outline m s start end n control (Err x) = refl

-- what judging the content tells of that
pub judged_ok : {T : Type 0} (a : Result FrameContent ContentError) (x : T) → judged a ≡ Ok tt → answer_with (refusal_of a) x ≡ Ok x
judged_ok (Ok k) x e = refl
judged_ok (Err r) x e = absurd (cc e)

pub judged_err : {T : Type 0} (a : Result FrameContent ContentError) (x : T) (r : ContentError) → judged a ≡ Err r → answer_with (refusal_of a) x ≡ Err (error_of r)
judged_err (Ok k) x r e = absurd (cc e)
judged_err (Err q) x r e = ap (λ (q : ContentError). Err (error_of q)) (cc e)

-- where the octets hold an address field, its groups and what follows it lie within them
pub room : (len end n : ℕ) → holds len end n ≡ true → (n ≤ 8) × (14 + 7 * n ≤ len) × (end + 1 ≤ len)
room len end n e =
    let a = both (ltb end len) _ e in
    let b = both (leb n 8) _ a.1 in
    let inner : end < len = ltb-true end len a.0 in
    let long : 14 + 7 * n ≤ end + 1 = leb-true (14 + 7 * n) (end + 1) b.1 in
    (leb-true n 8 b.0, omega arith, omega arith)

-- an accepted input holds what its outline tells of, and with its content that is the whole
pub record Whole (m : Mode) (s : List ℕ) (n : ℕ) : Type 0 where
  pub inside : holds (length s) (end_of s) n ≡ true
  pub made : with_content m s 0 n (end_of s + 1) (content_of m (drop (end_of s + 1) s)) ≡ decode m s

whole : (m : Mode) (s : List ℕ) → is_accepted (decode m s).answer ≡ true → Whole m s (decode m s).frame.route_count
unfolding with_content accepted_with frame_at
whole m s e =
    let a = accepts m s e in
    let n : (decode m s).frame.route_count ≡ a.count = ap (λ (d : Decoding). d.frame.route_count) a.made in
    record {
      inside = rw (n, lt-ltb (end_of s) (length s) a.end_in, le-leb a.count 8 a.few, le-leb (14 + 7 * a.count) (end_of s + 1) (omega (arith, a.counted, a.long))) refl;
      made = rw (a.read, n, a.made) refl;
    }

-- what the outline of an input tells
pub record Outlined (m : Mode) (s : List ℕ) (o : Outline) : Type 0 where
  pub accepted : is_accepted (decode m s).answer ≡ true
  pub end : o.end ≡ end_of s
  pub route_count : o.route_count ≡ (decode m s).frame.route_count

pub outlined : (m : Mode) (s : List ℕ) (o : Outline) → Ok o ≡ outline_of m s → Outlined m s o
outlined m s o e =
    let t = told_ok (decode m s).answer _ _ (sym e) in
    record {
      accepted = rw t.0 refl;
      end = ap (λ (o : Outline). o.end) (sym t.1);
      route_count = ap (λ (o : Outline). o.route_count) (sym t.1);
    }

-- the end in the outline of an accepted input is its end
pub outline_end : (m : Mode) (s : List ℕ) (o : Outline) → Ok o ≡ outline_of m s → o.end ≡ end_of s
outline_end m s o e = (outlined m s o e).end

pub not_outlined : (m : Mode) (s : List ℕ) (r : DecodeError) → Err r ≡ outline_of m s → (decode m s).answer ≡ Err r
not_outlined m s r e = told_err (decode m s).answer _ r (sym e)

-- going on from an outline that accepts is decoding
pub by_accepted : (m : Mode) (s : List ℕ) (o : Outline) → Ok o ≡ outline_of m s → decode_at m s o ≡ decode m s
unfolding decode_at
by_accepted m s o e =
    let t = outlined m s o e in
    let w = whole m s t.accepted in
    rw (t.end, t.route_count, w.inside, w.made) refl

-- and a refusal is the whole answer
pub by_refusal : (m : Mode) (s : List ℕ) (r : DecodeError) → Err r ≡ outline_of m s → refused_with (Err r) ≡ decode m s
by_refusal m s r e =
    let t = not_outlined m s r e in
    rw (← t) (sym (refused_is m s (rw t refl)))

by_either : (m : Mode) (s : List ℕ) (o : Result Outline DecodeError) → o ≡ outline_of m s → decode_by m s o ≡ decode m s
by_either m s (Ok o) e = by_accepted m s o e
by_either m s (Err r) e = by_refusal m s r e

-- so going on from the input's own outline is decoding
pub by_outline : (m : Mode) (s : List ℕ) → decode_by m s (outline_of m s) ≡ decode m s
by_outline m s = by_either m s (outline_of m s) refl
