-- The address field goes to the start of the output, and into what is left after it the content with its info, from the input.
use Prim.Native.Nat.{ℕ, ◌+◌, ◌-◌, ◌*◌, ◌≤◌}
use mathlib.Core.List.{List}
use mathlib.Core.Path.{◌≡◌, refl, ap, ◌∙◌}
use native.Mathlib.Omega.{arith}
use lib.ListN.{length}
use Rattle.octets.proofs.Splice.{splice-length}
use Rattle.content.specs.Spell.{front}
use Rattle.control.specs.declared.Mode.{Mode}
use Rattle.content.specs.declared.FrameContent.{FrameContent}
use Rattle.frame.proofs.Write.{field_room, content-length, content-put}
use Rattle.decode.specs.Answer.{is_accepted}
use Rattle.decode.specs.declared.Outline.{Outline}
use Rattle.decode.specs.Read.{end_of, decode}
use Rattle.std.specs.Prelude.{true}
use Rattle.decode.proofs.Whole.{outlined}
use Rattle.grammar.specs.Kept.{kept_of}
use Rattle.grammar.proofs.Marks.{route}
use Rattle.grammar.proofs.Parts.{parts}
use Rattle.respelling.proofs.Laws.{due-accepted, due_taken}
use borrow.Author.Rules.{rules}
use Rattle.respelling.proofs.put_due.Goals as goal
use Rattle.respelling.proofs.put_due.Goals.{After-front_len}

-- the numbers of the outline, the length of what stands before the info, and how much is kept
pub record Numbers (m : Mode) (s : List ℕ) (b : Outline) (f n : ℕ) : Type 0 where
  pub accepted : is_accepted (decode m s).answer ≡ true
  pub count : b.route_count ≡ (decode m s).frame.route_count
  pub end : b.end ≡ end_of s
  pub front : f ≡ length (front m (decode m s).frame.content)
  pub kept : n ≡ kept_of m (decode m s).frame.content (length s - (end_of s + 1))

numbers : (c : After-front_len) →
    let a = c.args in
    Numbers a.mode a.bytes.now a.outline c.front_len.result a.kept
numbers c =
    let p = c.requires in
    let t = outlined _ _ _ p.0 in
    record {
      accepted = t.accepted;
      count = t.route_count;
      end = t.end;
      front = c.front_len.ensures ∙ ap (λ (k : FrameContent). length (front c.args.mode k)) p.1;
      kept = p.2 ∙ rw p.1 refl;
    }

-- info ends in the input, and starts no later than it ends
bounds : (c : After-front_len) →
    let a = c.args in
    (a.outline.end + 1 + c.front_len.result ≤ a.outline.end + 1 + a.kept) × (a.outline.end + 1 + a.kept ≤ length a.bytes.now)
bounds c =
    let n = numbers c in
    let d = parts _ _ (λ k. search rules) n.accepted in
    (omega (arith, n.front, n.kept, d.before), omega (arith, n.end, n.kept, d.kept))

-- what is left of the output starts inside it
room : (c : After-front_len) → 14 + 7 * c.args.outline.route_count ≤ length c.put_addresses.new.out
room c =
    let t = due_taken _ _ _ (λ k. search rules) (numbers c).accepted c.requires.3 in
    rw (c.put_addresses.ensures, splice-length, (numbers c).count) (field_room _ _ _ c.args.out.now t)

pub put_addresses-requires : goal.put_addresses-requires
put_addresses-requires c =
    let t = outlined _ _ _ c.requires.0 in
    (c.requires.0, rw t.route_count (field_room _ _ _ c.args.out.now (due_taken _ _ _ (λ k. search rules) t.accepted c.requires.3)))

pub overflow_add-control : goal.overflow_add-control
overflow_add-control c =
    let t = outlined _ _ _ c.requires.0 in
    omega (arith, t.end, (route _ _ t.accepted).end_in)

pub overflow_add-start : goal.overflow_add-start
overflow_add-start c =
    let h = bounds (goal.at.overflow_add-start c).After-front_len in
    search rules

pub overflow_add-end : goal.overflow_add-end
overflow_add-end c =
    let h = bounds (goal.at.overflow_add-end c).After-front_len in
    search rules

pub overflow_mul-at : goal.overflow_mul-at
overflow_mul-at c = omega (arith, (numbers (goal.at.overflow_mul-at c).After-front_len).count, (route _ _ (outlined _ _ _ c.requires.0).accepted).few)

pub overflow_add-at : goal.overflow_add-at
overflow_add-at c = omega (arith, (numbers (goal.at.overflow_add-at c).After-front_len).count, (route _ _ (outlined _ _ _ c.requires.0).accepted).few)

pub slice_bounds-encode-count : goal.slice_bounds-encode-count
slice_bounds-encode-count c =
    let h = bounds (goal.at.slice_bounds-encode-count c).After-front_len in
    search rules

pub slice_bounds-encode-start : goal.slice_bounds-encode-start
slice_bounds-encode-start c =
    let h = bounds (goal.at.slice_bounds-encode-start c).After-front_len in
    search rules

pub slice_bounds-encode-end : goal.slice_bounds-encode-end
slice_bounds-encode-end c =
    let h = bounds (goal.at.slice_bounds-encode-end c).After-front_len in
    search rules

pub slice_bounds-encode-count-2 : goal.slice_bounds-encode-count-2
slice_bounds-encode-count-2 c = room (goal.at.slice_bounds-encode-count-2 c).After-front_len

pub slice_bounds-encode-start-2 : goal.slice_bounds-encode-start-2
slice_bounds-encode-start-2 c =
    let h = room (goal.at.slice_bounds-encode-start-2 c).After-front_len in
    search rules

-- the info in the input, as the frame has it
record Info (m : Mode) (s : List ℕ) (from many : ℕ) : Type 0 where
  from_is : from ≡ end_of s + 1 + length (front m (decode m s).frame.content)
  many_is : many ≡ (decode m s).info_len

info : (c : After-front_len) →
    let a = c.args in
    Info a.mode a.bytes.now (a.outline.end + 1 + c.front_len.result) (a.outline.end + 1 + a.kept - (a.outline.end + 1 + c.front_len.result))
info c =
    let n = numbers c in
    let d = parts _ _ (λ k. search rules) n.accepted in
    record { from_is = omega (arith, n.front, n.end); many_is = omega (arith, n.front, n.kept, d.carried) }

-- nothing is refused
pub unwrap-requires : goal.unwrap-requires
unwrap-requires c =
    let e = c.encode.ensures.value in
    let w = (goal.at.unwrap-requires c).After-front_len in
    let i = info w in
    let n = numbers w in
    let d = parts _ _ (λ k. search rules) n.accepted in
    let t = due_taken _ _ _ (λ k. search rules) n.accepted c.requires.3 in
    let ok = content-length _ _ _ c.args.out.now t in
    rw (e, i.many_is, i.from_is, ← d.info, c.put_addresses.ensures, c.requires.1, n.count, ok) refl

pub returns : goal.returns
returns c =
    let e = c.encode.ensures.out_after in
    let w = (goal.at.returns c).After-front_len in
    let i = info w in
    let n = numbers w in
    let d = parts _ _ (λ k. search rules) n.accepted in
    rw (e, i.many_is, i.from_is, ← d.info, c.put_addresses.ensures, c.requires.1, n.count, due-accepted _ _ n.accepted)
    (content-put _ _ _ c.args.out.now (due_taken _ _ _ (λ k. search rules) n.accepted c.requires.3))
