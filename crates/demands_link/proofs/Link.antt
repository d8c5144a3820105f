-- Document 02, M-112, proved; the settled cases compute.
use Prim.Native.Nat.{ℕ, zero, suc, ◌+◌, ◌-◌, ◌≤◌, ◌<◌}
use mathlib.Core.Path.{◌≡◌, refl, ap, sym, subst, ◌∙◌}
use mathlib.Core.Bool.{true, false, true≢false, false≢true, cond, ◌&&◌}
use mathlib.Core.List.{List, [], ◌∷◌, map}
use native.Mathlib.Omega.{arith}
use borrow.Author.Tests.{eq-eqb, eqb-true, ne_eqb, leb-true, leb-false}
use lib.Dec.{eqb, leb}
use lib.ListN.{take}
use Rattle.octets.specs.All.{all}
use Rattle.octets.specs.Count.{count}
use Rattle.octets.specs.First.{first}
use Rattle.octets.specs.Same.{same}
use Rattle.octets.specs.Table.{given}
use Rattle.octets.proofs.Choice.{by, either}
use Rattle.octets.proofs.Table.{exactly}
use Rattle.protocol.specs.Pid.{among, pid_of}
use Rattle.control.specs.declared.Mode.TheVariants.{Short}
use Rattle.address.specs.Address.{no_call, encodable}
use Rattle.address.specs.declared.Address.{Address}
use Rattle.group.specs.Group.{address_of, mark_of}
use Rattle.content.specs.declared.FrameContent.{FrameContent}
use Rattle.content.specs.declared.FrameContent.TheVariants as kind
use Rattle.parse.specs.Content.{s_kind_of, s_of, ui_of, u_of, i_of, content_of}
use Rattle.frame.specs.Frame.{no_entry, no_route, simple_ui, default_frame}
use Rattle.frame.specs.declared.Ax25Frame.{Ax25Frame}
use Rattle.decode.specs.Answer.{is_accepted, number_of as decode_number, DecodeAnswer}
use Rattle.decode.specs.Read.{parsed_at, entry_at, place_at, route_at, frame_at, refused_with, accepted_with, with_content, decode_field, decode}
use Rattle.decode.specs.declared.DecodeError.TheVariants as error
use Rattle.std.specs.Prelude.{Ok, Err}
use Rattle.decode.proofs.Read.{zero-accepted}
use Rattle.grammar.proofs.Numbers.{decode-rows}
use Rattle.hops.specs.Station.{same_station}
use Rattle.captures.specs.Capture.{kind_of}
use Rattle.link_record.specs.Record.{LinkAnswer, number_of, most, fresh, counted, unsound, stations_encodable, refusal}
use Rattle.link_record.specs.declared.Link.{Link}
use Rattle.link_record.proofs.Laws.{takes, Sound, not-unsound, sound-number, unsound_is, counted_is, fresh_a, fresh_b, fresh-offered, fresh-counted, fresh_sound, refused_station, refused_equal, refused-unsound, refused_full, takes_one}
use Rattle.link_frame.specs.Frame.{acknowledged, verdict_of, event_of, heard_of}
use Rattle.link_frame.proofs.Laws.{is_numbered}
use Rattle.link.specs.Step.{is_from_to, sender_in, followed, offered_to, step_of}
use Rattle.link_frame.specs.declared.Side.{Side}
use Rattle.std.proofs.Common.{Option, Some, None, Ok, Err}
use Rattle.link.specs.declared.Stepped.{Stepped}
use Rattle.link.proofs.Laws.{sender_a, sender_b, sender_neither, offered_frame, refused_number, refused_link_lem, step-refused, step-offered, Counting, is_sent, followed_counting, refused_counting, followed_others, followed-nothing}
use Rattle.demands.specs.Numbers.{decode_table}
use Rattle.demands.specs.Examples.{whole}
use Rattle.demands_link.specs.Link.{record_rows, link_table, is_between, is_of_kind, is_information, is_followed, once_more, Offered, after, information_in, CountsAddUp, NeverUnsound, box, gauge, recording, recorded, Case, cases}

-- ---- the numbers

decoded-rows : (s : List ℕ) → given (decode_table Short s) ≡ decode_number (decode Short s).answer
unfolding given
decoded-rows s = sym (decode-rows Short s)

-- the number by the record's own refusal
module _ (l : Link) (s : List ℕ) where
  refused-number : (a : LinkAnswer) → refusal l ≡ a → takes a ≡ false → number_of (step_of l s).answer ≡ number_of a
  refused-number a e t = ap (λ (r : Stepped). number_of r.answer) (step-refused l s (ap takes e ∙ t)) ∙ ap number_of e

  offered-number : refusal l ≡ Ok tt → number_of (step_of l s).answer ≡ decode_number (decode Short s).answer
  offered-number e =
      ap (λ (r : Stepped). number_of r.answer) (step-offered l s (ap takes e))
      ∙ by (is_accepted (decode Short s).answer)
      (λ a. ap (λ (r : Stepped). number_of r.answer) (offered_frame l (decode Short s) a) ∙ sym (eqb-true _ 0 (zero-accepted (decode Short s).answer ∙ a)))
      (λ a. refused_number l (decode Short s) a)

  link-rows : number_of (step_of l s).answer ≡ given (link_table l s)
  unfolding given
  link-rows =
      by (stations_encodable l)
      (λ e.
      by (same_station l.a l.b)
      (λ d. refused-number _ (refused_equal l e d) refl ∙ rw (e, d) refl)
      (λ d.
      by (unsound l)
      (λ u. refused-number _ (refused-unsound l e d u) refl ∙ rw (e, d, ← unsound_is l, u) refl)
      (λ u.
      by (leb most l.offered)
      (λ f. refused-number _ (refused_full l e d u (leb-true most l.offered f)) refl ∙ rw (e, d, ← unsound_is l, u, f) refl)
      (λ f. offered-number (takes_one l e d u (leb-false most l.offered f)) ∙ rw (e, d, ← unsound_is l, u, f) (sym (decoded-rows s))))))
      (λ e. refused-number _ (refused_station l e) refl ∙ rw e refl)

-- ---- what is of the link, by its sender and its kind

sent : (l : Link) (f : Ax25Frame) → is_sent (sender_in l f) ≡ is_between l.a l.b f
sent l f =
    by (is_from_to l.a l.b f)
    (λ x. ap is_sent (sender_a l f x) ∙ rw x refl)
    (λ x.
    by (is_from_to l.b l.a f)
    (λ y. ap is_sent (sender_b l f x y) ∙ rw (x, y) refl)
    (λ y. ap is_sent (sender_neither l f x y) ∙ rw (x, y) refl))

unsent : (p : Option Side) → is_sent p ≡ false → p ≡ None
unsent (Some from) e = absurd (true≢false e)
unsent None e = refl

numbered_kind : (k : FrameContent) → is_numbered (event_of k) ≡ eqb (kind_of k) 0
numbered_kind (kind.Information k) = refl
numbered_kind (kind.ReceiveReady k) = refl
numbered_kind (kind.ReceiveNotReady k) = refl
numbered_kind (kind.Reject k) = refl
numbered_kind (kind.SelectiveReject k) = refl
numbered_kind (kind.SetAsynchronousBalancedMode k) = refl
numbered_kind (kind.SetAsynchronousBalancedModeExtended k) = refl
numbered_kind (kind.Disconnect k) = refl
numbered_kind (kind.DisconnectedMode k) = refl
numbered_kind (kind.UnnumberedAcknowledge k) = refl
numbered_kind (kind.FrameReject k) = refl
numbered_kind (kind.UnnumberedInformation k) = refl
numbered_kind (kind.ExchangeIdentification k) = refl
numbered_kind (kind.Test k) = refl
numbered_kind kind.UnknownContent = refl

not-followed : (k : FrameContent) → is_followed (kind_of k) ≡ false → event_of k ≡ None
not-followed (kind.Information k) e = absurd (true≢false e)
not-followed (kind.ReceiveReady k) e = refl
not-followed (kind.ReceiveNotReady k) e = refl
not-followed (kind.Reject k) e = refl
not-followed (kind.SelectiveReject k) e = refl
not-followed (kind.SetAsynchronousBalancedMode k) e = absurd (true≢false e)
not-followed (kind.SetAsynchronousBalancedModeExtended k) e = absurd (true≢false e)
not-followed (kind.Disconnect k) e = absurd (true≢false e)
not-followed (kind.DisconnectedMode k) e = absurd (true≢false e)
not-followed (kind.UnnumberedAcknowledge k) e = absurd (true≢false e)
not-followed (kind.FrameReject k) e = refl
not-followed (kind.UnnumberedInformation k) e = refl
not-followed (kind.ExchangeIdentification k) e = refl
not-followed (kind.Test k) e = refl
not-followed kind.UnknownContent e = refl

-- ---- one frame offered to a record that takes it

module _ (l : Link) (s : List ℕ) (t : takes (refusal l) ≡ true) where
  -- with what decoding gives in hand
  behind : (step_of l s).link ≡ (offered_to l (decode Short s)).link
  behind = ap (λ (r : Stepped). r.link) (step-offered l s t)

  accepted_link : is_accepted (decode Short s).answer ≡ true → (step_of l s).link ≡ followed l (decode Short s).frame
  accepted_link e = behind ∙ ap (λ (r : Stepped). r.link) (offered_frame l (decode Short s) e)

  refused_link : is_accepted (decode Short s).answer ≡ false → (step_of l s).link ≡ once_more l
  refused_link e = behind ∙ refused_link_lem l (decode Short s) e

  step_counting : Counting l (step_of l s).link (cond (is_information l.a l.b s) 1 0)
  step_counting =
      by (is_accepted (decode Short s).answer)
      (λ e. rw (accepted_link e, e, ← sent l (decode Short s).frame, ← numbered_kind (decode Short s).frame.content) (followed_counting l (decode Short s).frame))
      (λ e. rw (refused_link e, e) (refused_counting l))

  only-offered : is_of_kind is_followed l.a l.b s ≡ false → (step_of l s).link ≡ once_more l
  only-offered n =
      by (is_accepted (decode Short s).answer)
      (λ e. accepted_link e
      ∙ by (is_between l.a l.b (decode Short s).frame)
      (λ x. followed-nothing l (decode Short s).frame (not-followed (decode Short s).frame.content (rw (e, x) at n)))
      (λ x. followed_others l (decode Short s).frame (unsent (sender_in l (decode Short s).frame) (sent l (decode Short s).frame ∙ x))))
      refused_link

-- ---- the statement on one frame

-- a record takes a frame exactly where none of its own rows holds
rows_taken : (l : Link) → eqb (given (record_rows l)) 0 ≡ takes (refusal l)
unfolding given
rows_taken l =
    by (stations_encodable l)
    (λ e.
    by (same_station l.a l.b)
    (λ d. rw (refused_equal l e d, e, d) refl)
    (λ d.
    by (unsound l)
    (λ u. rw (refused-unsound l e d u, e, d, ← unsound_is l, u) refl)
    (λ u.
    by (leb most l.offered)
    (λ f. rw (refused_full l e d u (leb-true most l.offered f), e, d, ← unsound_is l, u, f) refl)
    (λ f. rw (takes_one l e d u (leb-false most l.offered f), e, d, ← unsound_is l, u, f) refl))))
    (λ e. rw (refused_station l e, e) refl)

pub offered : (l : Link) (s : List ℕ) → Offered l s (step_of l s)
offered l s =
    let taken : given (record_rows l) ≡ 0 → takes (refusal l) ≡ true = λ z. sym (rows_taken l) ∙ eq-eqb (given (record_rows l)) 0 z in
    let kept : takes (refusal l) ≡ false → (step_of l s).link ≡ l = λ t. ap (λ (r : Stepped). r.link) (step-refused l s t) in
    record {
      number = (exactly (link_table l s) _).0 (sym (link-rows l s));
      unchanged = λ n. kept (sym (rows_taken l) ∙ ne_eqb (given (record_rows l)) 0 n);
      others = λ z. only-offered l s (taken z);
      offered = λ z. (step_counting l s (taken z)).offered;
      stations = by (takes (refusal l)) (λ t. let c = step_counting l s t in (c.a, c.b)) (λ t. rw (kept t) (refl, refl));
    }

-- ---- a whole recording

-- a sound record stays one
step_sound : (l : Link) (s : List ℕ) → Sound l → Sound (step_of l s).link
step_sound l s h =
    by (takes (refusal l))
    (λ t.
    let c = step_counting l s t in
    let w = c.within (record { from_a = h.from_a; from_b = h.from_b }) in
    let few : cond (is_information l.a l.b s) 1 0 ≤ 1 = either (λ (n : ℕ). n ≤ 1) (is_information l.a l.b s) (λ e. omega arith) (λ e. omega arith) in
    record { counts = omega (arith, c.counts, c.offered, h.counts, few); from_a = w.from_a; from_b = w.from_b })
    (λ t. subst Sound (sym (ap (λ (r : Stepped). r.link) (step-refused l s t))) h)

after_sound : (l : Link) (ss : List (List ℕ)) → Sound l → Sound (after l ss)
unfolding after
after_sound l [] h = h
after_sound l (s ∷ ss) h = after_sound (step_of l s).link ss (step_sound l s h)

-- the counts behind it: those before, and the I frames among the frames that the record still takes
module _ (a b : Address) (able : (encodable a && encodable b) ≡ true) (differ : same_station a b ≡ false) where
  counts_from : (ss : List (List ℕ)) (n : ℕ) (l : Link) → n ≡ 65535 - l.offered → l.a ≡ a → l.b ≡ b → Sound l
      → counted (after l ss) ≡ counted l + count (is_information a b) (take n ss)
  unfolding after count
  counts_from [] zero l left x y h = omega arith
  counts_from [] (suc n) l left x y h = omega arith
  counts_from (s ∷ ss) zero l left x y h =
      let full = refused_full l (rw (x, y) able) (rw (x, y) differ) (not-unsound l h) (omega (arith, left)) in
      rw (ap (λ (r : Stepped). r.link) (step-refused l s (ap takes full))) (counts_from ss zero l left x y h)
  counts_from (s ∷ ss) (suc n) l left x y h =
      let room = takes_one l (rw (x, y) able) (rw (x, y) differ) (not-unsound l h) (omega (arith, left)) in
      let c = step_counting l s (ap takes room) in
      let more : counted (step_of l s).link ≡ counted l + cond (is_information a b s) 1 0 = c.counts ∙ rw (x, y) refl in
      counts_from ss n (step_of l s).link (omega (arith, left, c.offered)) (c.a ∙ x) (c.b ∙ y) (step_sound l s h)
      ∙ rw more (by (is_information a b s) (λ i. rw i (omega arith)) (λ i. rw i (omega arith)))

  counts-fresh : (ss : List (List ℕ)) → counted (after (fresh a b) ss) ≡ information_in a b ss
  unfolding information_in
  counts-fresh ss =
      let all_told = counts_from ss 65535 (fresh a b) (omega (arith, fresh-offered a b)) (fresh_a a b) (fresh_b a b) (fresh_sound a b) in
      omega (arith, all_told, fresh-counted a b)

pub counts-add-up : CountsAddUp
counts-add-up a b ea eb d ss = sym (counted_is (after (fresh a b) ss)) ∙ counts-fresh a b (rw (ea, eb) refl) d ss

-- ---- no record that calls made is 73

decode_below : (a : DecodeAnswer) → decode_number a < 13
decode_below (Ok u) = omega arith
decode_below (Err error.OnlyNullBytes) = omega arith
decode_below (Err error.NoEndToAddressField) = omega arith
decode_below (Err (error.AddressFieldTooShort start end)) = omega arith
decode_below (Err (error.FrameTooShort len)) = omega arith
decode_below (Err error.MissingPidField) = omega arith
decode_below (Err error.UnrecognisedUFieldType) = omega arith
decode_below (Err error.WrongSizeFrmrInfo) = omega arith
decode_below (Err error.TooManyRepeaters) = omega arith
decode_below (Err error.LeadingNullBytes) = omega arith
decode_below (Err error.FrameRejectInLongMode) = omega arith
decode_below (Err error.MissingControlOctet) = omega arith

offered_only : (x : LinkAnswer) → takes x ≡ true → x ≡ Ok tt
offered_only (Ok u) e = refl
offered_only (Err x) e = absurd (false≢true e)

-- whatever the stations are, and whatever is offered next
pub never_73 : NeverUnsound
never_73 a b ss s e =
    let l = after (fresh a b) ss in
    by (takes (refusal l))
    (λ t. omega (arith, sym (offered-number l s (offered_only (refusal l) t)) ∙ e, decode_below (decode Short s).answer))
    (λ t. sound-number l (not-unsound l (after_sound (fresh a b) ss (fresh_sound a b))) (sym (refused-number l s (refusal l) refl t) ∙ e))

-- ---- the settled cases

pub recording-followed : after (fresh box gauge) recording ≡ recorded
unfolding first same among pid_of no_call address_of mark_of s_kind_of s_of ui_of u_of i_of content_of no_entry no_route simple_ui default_frame parsed_at entry_at place_at route_at frame_at refused_with accepted_with with_content decode_field decode all encodable same_station fresh counted unsound refusal acknowledged verdict_of heard_of sender_in followed offered_to step_of after
recording-followed = refl

pub recording-counted : information_in box gauge recording ≡ 9
unfolding first same among pid_of no_call address_of mark_of s_kind_of s_of ui_of u_of i_of content_of no_entry no_route simple_ui default_frame parsed_at entry_at place_at route_at frame_at refused_with accepted_with with_content decode_field decode same_station count information_in
recording-counted = refl

pub settled-cases : map (λ (c : Case). number_of (step_of c.link whole).answer) cases ≡ map (λ (c : Case). c.number) cases
unfolding first same among pid_of no_call address_of mark_of s_kind_of s_of ui_of u_of content_of no_entry no_route simple_ui default_frame parsed_at entry_at place_at route_at frame_at refused_with accepted_with with_content decode_field decode all encodable same_station fresh counted unsound refusal sender_in followed offered_to step_of
settled-cases = refl
