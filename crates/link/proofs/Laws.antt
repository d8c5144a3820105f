-- Who sent a frame, by its tests; what a step gives, by the record's refusal and by decoding.
use Prim.Native.Nat.{ℕ, ◌+◌}
use mathlib.Core.Path.{◌≡◌, refl, ap, sym, ◌∙◌}
use mathlib.Core.Bool.{Bool, true, false, true≢false, false≢true, cond, ◌&&◌}
use mathlib.Core.List.{List}
use native.Mathlib.Omega.{arith}
use Rattle.control.specs.declared.Mode.TheVariants.{Short}
use Rattle.content.specs.declared.FrameContent.{FrameContent}
use Rattle.frame.specs.declared.Ax25Frame.{Ax25Frame}
use Rattle.decode.specs.Answer.{is_accepted, number_of as decode_number}
use Rattle.decode.specs.declared.DecodeError.{DecodeError}
use Rattle.decode.proofs.Read.{answer_accepted, answer_refused}
use Rattle.decode.specs.Read.{decode, Decoding}
use Rattle.link_record.specs.Record.{LinkAnswer, number_of, counted, refusal}
use Rattle.link_record.specs.declared.Link.{Link}
use Rattle.link_record.specs.declared.LinkError.TheVariants.{Refused}
use Rattle.link_record.proofs.Laws.{takes, counted_is}
use Rattle.link_frame.specs.Frame.{event_of, heard_of}
use Rattle.link_frame.specs.declared.Side.{Side}
use Rattle.link_frame.specs.declared.Side.TheVariants.{A, B}
use Rattle.link_frame.specs.declared.Verdict.{Verdict}
use Rattle.link_frame.specs.declared.Verdict.TheVariants.{InOrder, Repeated, Gap, Outside}
use Rattle.link_frame.proofs.Laws.{Within, is_counted, is_numbered, heard_as_lem, heard_kept, heard_within, heard-counted}
use Rattle.link.specs.Step.{is_from_to, sender_in, sender_of, tallied, counted_as, after_hearing, followed_by, followed, offered_to, step_by, step_of}
use Rattle.link.specs.declared.Stepped.{Stepped}
use Rattle.std.proofs.Common.{Option, Some, None, Ok, Err}

-- who sent a frame
module _ (l : Link) (f : Ax25Frame) where
  pub sender_a : is_from_to l.a l.b f ≡ true → sender_in l f ≡ Some A
  unfolding sender_in
  sender_a e = rw e refl

  module _ (n : is_from_to l.a l.b f ≡ false) where
    pub sender_b : is_from_to l.b l.a f ≡ true → sender_in l f ≡ Some B
    unfolding sender_in
    sender_b e = rw (n, e) refl

    pub sender_neither : is_from_to l.b l.a f ≡ false → sender_in l f ≡ None
    unfolding sender_in
    sender_neither e = rw (n, e) refl

  pub followed_by_lem : (p : Option Side) → p ≡ sender_in l f → followed_by p f.content l ≡ followed l f
  unfolding followed
  followed_by_lem p e = rw e refl

module _ (l : Link) (s : List ℕ) where
  pub sent_by_neither : is_accepted (decode Short s).answer ≡ false → sender_of l s ≡ None
  unfolding sender_of
  sent_by_neither e = rw e refl

  pub sent_by : is_accepted (decode Short s).answer ≡ true → sender_of l s ≡ sender_in l (decode Short s).frame
  unfolding sender_of
  sent_by e = rw e refl

-- what is decoded, and what is refused
module _ (l : Link) (d : Decoding) where
  pub offered_frame : is_accepted d.answer ≡ true → offered_to l d ≡ record { answer = Ok tt; link = followed l d.frame }
  unfolding offered_to
  offered_frame e = rw (answer_accepted d.answer e) refl

  pub offered-refused : (r : DecodeError) → d.answer ≡ Err r → offered_to l d ≡ record { answer = Err (Refused r); link = counted_as None l }
  unfolding offered_to
  offered-refused r e = rw e refl

  -- whatever it is refused for
  pub refused_number : is_accepted d.answer ≡ false → number_of (offered_to l d).answer ≡ decode_number d.answer
  refused_number e =
      let p = answer_refused d.answer e in
      ap (λ (t : Stepped). number_of t.answer) (offered-refused p.0 p.1) ∙ ap decode_number (sym p.1)

  pub refused_link_lem : is_accepted d.answer ≡ false → (offered_to l d).link ≡ counted_as None l
  refused_link_lem e =
      let p = answer_refused d.answer e in
      ap (λ (t : Stepped). t.link) (offered-refused p.0 p.1)

-- a step by the record's refusal
pub step_by_lem : (l : Link) (s : List ℕ) (a : LinkAnswer) → a ≡ refusal l → step_by a l s ≡ step_of l s
unfolding step_of
step_by_lem l s a e = rw e refl

-- where the record refuses, nothing changes
pub still : (a : LinkAnswer) (l : Link) (s : List ℕ) → takes a ≡ false → step_by a l s ≡ record { answer = a; link = l }
still (Ok u) l s e = absurd (true≢false e)
still (Err x) l s e = refl

offers : (a : LinkAnswer) (l : Link) (s : List ℕ) → takes a ≡ true → step_by a l s ≡ offered_to l (decode Short s)
offers (Ok u) l s e = refl
offers (Err x) l s e = absurd (false≢true e)

module _ (l : Link) (s : List ℕ) where
  pub step-refused : takes (refusal l) ≡ false → step_of l s ≡ record { answer = refusal l; link = l }
  step-refused e = sym (step_by_lem l s (refusal l) refl) ∙ still (refusal l) l s e

  pub step-offered : takes (refusal l) ≡ true → step_of l s ≡ offered_to l (decode Short s)
  step-offered e = sym (step_by_lem l s (refusal l) refl) ∙ offers (refusal l) l s e

-- a record behind a frame: the stations stay, one more was offered, so many more are counted, and it is still sound
pub record Counting (l m : Link) (more : ℕ) : Type 0 where
  pub a : m.a ≡ l.a
  pub b : m.b ≡ l.b
  pub offered : m.offered ≡ l.offered + 1
  pub counts : counted m ≡ counted l + more
  pub within : Within l → Within m

-- counts that together are so many more
tallied_counting : (l : Link) (i r g o more : ℕ) → i + r + g + o ≡ l.in_order + l.repeated + l.gaps + l.outside + more → Counting l (tallied l i r g o (l.offered + 1)) more
tallied_counting l i r g o more e = record {
  a = refl;
  b = refl;
  offered = refl;
  counts = counted_is (tallied l i r g o (l.offered + 1)) ∙ e ∙ ap (λ n. n + more) (sym (counted_is l));
  within = λ w. record { from_a = w.from_a; from_b = w.from_b };
}

-- one count is one more where the verdict is one of the four
as_counting : (v : Option Verdict) (l : Link) → Counting l (counted_as v l) (cond (is_counted v) 1 0)
as_counting None l = tallied_counting l _ _ _ _ 0 (omega arith)
as_counting (Some InOrder) l = tallied_counting l _ _ _ _ 1 (omega arith)
as_counting (Some Repeated) l = tallied_counting l _ _ _ _ 1 (omega arith)
as_counting (Some Gap) l = tallied_counting l _ _ _ _ 1 (omega arith)
as_counting (Some Outside) l = tallied_counting l _ _ _ _ 1 (omega arith)

heard_counting : (from : Side) (k : FrameContent) (l : Link) → Counting l (after_hearing (heard_of from k l)) (cond (is_numbered (event_of k)) 1 0)
heard_counting from k l =
    let h = heard_of from k l in
    let t = as_counting h.verdict h.link in
    let e = heard_kept from k l in
    record {
      a = t.a ∙ e.a;
      b = t.b ∙ e.b;
      offered = t.offered ∙ ap (λ n. n + 1) e.offered;
      counts = t.counts ∙ rw (e.counts, heard-counted from k l) refl;
      within = λ w. t.within (heard_within from k l w);
    }

-- whether a frame is of the link
abbrev pub is_sent : Option Side → Bool
is_sent (Some from) = true
is_sent None = false

by_counting : (p : Option Side) (k : FrameContent) (l : Link) → Counting l (followed_by p k l) (cond (is_sent p && is_numbered (event_of k)) 1 0)
by_counting (Some from) k l = heard_counting from k l
by_counting None k l = as_counting None l

pub followed_counting : (l : Link) (f : Ax25Frame) → Counting l (followed l f) (cond (is_sent (sender_in l f) && is_numbered (event_of f.content)) 1 0)
followed_counting l f = rw (← followed_by_lem l f (sender_in l f) refl) (by_counting (sender_in l f) f.content l)

pub refused_counting : (l : Link) → Counting l (counted_as None l) 0
refused_counting l = as_counting None l

-- a frame of others, or of a kind that is nothing to a link, changes the number offered alone
pub followed_others : (l : Link) (f : Ax25Frame) → sender_in l f ≡ None → followed l f ≡ counted_as None l
followed_others l f e = sym (followed_by_lem l f None (sym e))

nothing_by : (p : Option Side) (k : FrameContent) (l : Link) → event_of k ≡ None → followed_by p k l ≡ counted_as None l
nothing_by (Some from) k l e = ap after_hearing (sym (heard_as_lem from k l None (sym e)))
nothing_by None k l e = refl

pub followed-nothing : (l : Link) (f : Ax25Frame) → event_of f.content ≡ None → followed l f ≡ counted_as None l
followed-nothing l f e = sym (followed_by_lem l f (sender_in l f) refl) ∙ nothing_by (sender_in l f) f.content l e
