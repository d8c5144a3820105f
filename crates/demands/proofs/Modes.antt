-- Document 02, M-109, proved: the settled cases compute; 6 is never given, 11 and 12 never in the short mode, and 8 never in the long one.
use Prim.Native.Nat.{ℕ, ◌+◌}
use mathlib.Core.Path.{◌≡◌, refl, ap, sym, ◌∙◌}
use mathlib.Core.Bool.{Bool, true, false, true≢false, false≢true, not, cond, ◌&&◌, ◌||◌}
use mathlib.Core.List.{List, map}
use native.Mathlib.Omega.{arith}
use borrow.Author.Tests.{eqb-false, lt-ltb, ltb-true}
use lib.Dec.{eqb, ltb}
use lib.ListN.{length, get_or, drop}
use Rattle.octets.specs.First.{first}
use Rattle.octets.specs.Same.{same}
use Rattle.octets.proofs.Choice.{by, either, neither, and_false}
use Rattle.protocol.specs.Pid.{among, pid_of}
use Rattle.address.specs.Address.{no_call}
use Rattle.group.specs.Group.{address_of, mark_of, ssid_octet, group_of}
use Rattle.control.specs.declared.Mode.{Mode}
use Rattle.control.specs.declared.Mode.TheVariants.{Short, Long}
use Rattle.parse.specs.Content.{i_of, s_kind_of, s_of, ui_of, response_of, frmr_of, u_of, content_of}
use Rattle.parse.specs.Numbers.{is_i, is_s, is_ui, is_frmr, lacks_control, lacks_pid, strange_u, frmr_in_long, wrong_frmr}
use Rattle.frame.specs.Frame.{no_entry, no_route, simple_ui, default_frame}
use Rattle.frame.specs.Spell.{groups_of, address_field, spell}
use Rattle.decode.specs.Answer.{number_of, is_accepted, DecodeAnswer}
use Rattle.decode.specs.Numbers.{no_start, leading_null, no_end, short_field, no_content, many_repeaters}
use Rattle.decode.specs.Read.{end_of, parsed_at, entry_at, place_at, route_at, frame_at, refused_with, accepted_with, with_content, decode_field, decode, Decoding}
use Rattle.decode.specs.declared.DecodeError.TheVariants as error
use Rattle.std.specs.Prelude.{Ok, Err}
use Rattle.decode.proofs.Accepts.{accepts}
use Rattle.decode.proofs.Read.{zero-accepted}
use Rattle.grammar.proofs.Numbers.{decode-rows}
use Rattle.spelling.specs.Canonical.{again, canonical}
use Rattle.respelling.specs.Reencode.{due}
use Rattle.demands.specs.Examples.{Outcome, outcome}
use Rattle.demands.specs.Modes.{long_cases, both_cases, AllButContent}

abbrev content : List ℕ → List ℕ
content s = drop (end_of s + 1) s

pub long-cases : map (λ (c : List ℕ × Outcome). outcome Long c.0) long_cases ≡ map (λ (c : List ℕ × Outcome). c.1) long_cases
unfolding first same among pid_of no_call address_of mark_of ssid_octet group_of i_of s_kind_of s_of ui_of response_of frmr_of u_of content_of no_entry no_route simple_ui default_frame parsed_at entry_at place_at route_at frame_at refused_with accepted_with with_content decode_field decode groups_of address_field spell again canonical due
long-cases = refl

pub both-cases : (m : Mode) → map (λ (c : List ℕ × Outcome). outcome m c.0) both_cases ≡ map (λ (c : List ℕ × Outcome). c.1) both_cases
unfolding first same among pid_of no_call address_of mark_of ssid_octet group_of i_of s_kind_of s_of ui_of response_of frmr_of u_of content_of no_entry no_route simple_ui default_frame parsed_at entry_at place_at route_at frame_at refused_with accepted_with with_content decode_field decode groups_of address_field spell again canonical due
both-cases Short = refl
both-cases Long = refl

-- no answer has the number 6
six_free : (a : DecodeAnswer) → number_of a ≡ 6 → ⊥
six_free (Ok u) e = omega (arith, e)
six_free (Err error.OnlyNullBytes) e = omega (arith, e)
six_free (Err error.NoEndToAddressField) e = omega (arith, e)
six_free (Err (error.AddressFieldTooShort start end)) e = omega (arith, e)
six_free (Err (error.FrameTooShort len)) e = omega (arith, e)
six_free (Err error.MissingPidField) e = omega (arith, e)
six_free (Err error.UnrecognisedUFieldType) e = omega (arith, e)
six_free (Err error.WrongSizeFrmrInfo) e = omega (arith, e)
six_free (Err error.TooManyRepeaters) e = omega (arith, e)
six_free (Err error.LeadingNullBytes) e = omega (arith, e)
six_free (Err error.FrameRejectInLongMode) e = omega (arith, e)
six_free (Err error.MissingControlOctet) e = omega (arith, e)

pub never_six : (m : Mode) (s : List ℕ) → number_of (decode m s).answer ≡ 6 → ⊥
never_six m s = six_free (decode m s).answer

-- what no content is in a mode
no_control : (s : List ℕ) → lacks_control Short s ≡ false
no_control s = rw (and_false (ltb (length s) 2)) (and_false (is_i (get_or s 0 0) || is_s (get_or s 0 0)))

no-frmr : (s : List ℕ) → frmr_in_long Short s ≡ false
no-frmr s = and_false (is_frmr (get_or s 0 0))

no_size : (s : List ℕ) → wrong_frmr Long s ≡ false
no_size s = rw (and_false (not (eqb (length s) 4))) (and_false (is_frmr (get_or s 0 0)))

-- a property of decoding's number, by the rows that can hold
by_rows : (m : Mode) (s : List ℕ) (P : ℕ → Type 0) → P 0 → P 1 → P 10 → P 2 → P 3 → P 4 → P 9 → P 5 → P 7
    → (lacks_control m (content s) ≡ true → P 12) → (frmr_in_long m (content s) ≡ true → P 11) → (wrong_frmr m (content s) ≡ true → P 8)
    → P (number_of (decode m s).answer)
by_rows m s P p0 p1 p10 p2 p3 p4 p9 p5 p7 p12 p11 p8 = rw (decode-rows m s)
    (either P (no_start s) (λ _. p1)
    (λ _. either P (leading_null s) (λ _. p10)
    (λ _. either P (no_end s) (λ _. p2)
    (λ _. either P (short_field s) (λ _. p3)
    (λ _. either P (no_content s) (λ _. p4)
    (λ _. either P (many_repeaters s) (λ _. p9)
    (λ _. either P (lacks_control m (content s)) p12
    (λ _. either P (lacks_pid m (content s)) (λ _. p5)
    (λ _. either P (strange_u (content s)) (λ _. p7)
    (λ _. either P (frmr_in_long m (content s)) p11
    (λ _. either P (wrong_frmr m (content s)) p8 (λ _. p0))))))))))))

-- 11 and 12 are never given in the short mode, so by no call of C
pub short_numbers : (s : List ℕ) → (number_of (decode Short s).answer ≡ 11 → ⊥) × (number_of (decode Short s).answer ≡ 12 → ⊥)
short_numbers s =
    let n = by_rows Short s (λ (n : ℕ). (eqb n 11 ≡ false) × (eqb n 12 ≡ false))
    (refl, refl) (refl, refl) (refl, refl) (refl, refl) (refl, refl) (refl, refl) (refl, refl) (refl, refl) (refl, refl)
    (λ e. absurd (true≢false (sym e ∙ no_control (content s))))
    (λ e. absurd (true≢false (sym e ∙ no-frmr (content s))))
    (λ _. (refl, refl)) in
    (eqb-false _ 11 n.0, eqb-false _ 12 n.1)

-- 8 is never given in the long mode
pub long_numbers : (s : List ℕ) → number_of (decode Long s).answer ≡ 8 → ⊥
long_numbers s =
    eqb-false _ 8 (by_rows Long s (λ (n : ℕ). eqb n 8 ≡ false)
    refl refl refl refl refl refl refl refl refl (λ _. refl) (λ _. refl) (λ e. absurd (true≢false (sym e ∙ no_size (content s)))))

-- What is read in the long mode is read in the short one too, as a frame with the same stations, route and mark; only its content is
-- another. So whoever relays need not know the mode.

-- where no PID is lacking in the long mode, none is in the short one, and where there is no FRMR there is none of a wrong size
pid-there : (s : List ℕ) → lacks_pid Long s ≡ false → lacks_pid Short s ≡ false
pid-there s e =
    let x = neither (is_i (get_or s 0 0) && ltb (length s) 3) (is_ui (get_or s 0 0) && ltb (length s) 2) e in
    let i : (is_i (get_or s 0 0) && ltb (length s) 2) ≡ false =
    by (ltb (length s) 2)
    (λ l. let three : ltb (length s) 3 ≡ true = lt-ltb (length s) 3 (omega (arith, ltb-true (length s) 2 l)) in
    rw l (rw three at x.0))
    (λ l. rw l (and_false (is_i (get_or s 0 0)))) in
    rw (i, x.1) refl

size_right : (s : List ℕ) → frmr_in_long Long s ≡ false → wrong_frmr Short s ≡ false
size_right s e = by (is_frmr (get_or s 0 0)) (λ f. absurd (true≢false (rw f at e))) (λ f. rw f refl)

-- a row that is the same in both
alike : (b : Bool) (n x y : ℕ) → eqb n 0 ≡ false → (b ≡ false → eqb x 0 ≡ true → eqb y 0 ≡ true) → eqb (cond b n x) 0 ≡ true → eqb (cond b n y) 0 ≡ true
alike true n x y z f e = absurd (false≢true (sym z ∙ e))
alike false n x y z f e = f refl e

-- a row of the long mode alone
gone : (b : Bool) (n x y : ℕ) → eqb n 0 ≡ false → (b ≡ false → eqb x 0 ≡ true → eqb y 0 ≡ true) → eqb (cond b n x) 0 ≡ true → eqb y 0 ≡ true
gone true n x y z f e = absurd (false≢true (sym z ∙ e))
gone false n x y z f e = f refl e

-- the short mode's rows of content
abbrev short_rows : List ℕ → ℕ
short_rows c =
    cond (lacks_control Short c) 12 (cond (lacks_pid Short c) 5 (cond (strange_u c) 7 (cond (frmr_in_long Short c) 11 (cond (wrong_frmr Short c) 8 0))))

rows-zero : (c : List ℕ) → lacks_pid Long c ≡ false → strange_u c ≡ false → frmr_in_long Long c ≡ false → eqb (short_rows c) 0 ≡ true
rows-zero c p u f = rw (no_control c, pid-there c p, u, no-frmr c, size_right c f) refl

zero_too : (s : List ℕ) → eqb (number_of (decode Long s).answer) 0 ≡ true → eqb (number_of (decode Short s).answer) 0 ≡ true
zero_too s = rw (decode-rows Long s, decode-rows Short s)
    (alike (no_start s) 1 _ _ refl
    (λ _. alike (leading_null s) 10 _ _ refl
    (λ _. alike (no_end s) 2 _ _ refl
    (λ _. alike (short_field s) 3 _ _ refl
    (λ _. alike (no_content s) 4 _ _ refl
    (λ _. alike (many_repeaters s) 9 _ _ refl
    (λ _. gone (lacks_control Long (content s)) 12 _ (short_rows (content s)) refl
    (λ _. gone (lacks_pid Long (content s)) 5 _ (short_rows (content s)) refl
    (λ p. gone (strange_u (content s)) 7 _ (short_rows (content s)) refl
    (λ u. gone (frmr_in_long Long (content s)) 11 _ (short_rows (content s)) refl
    (λ f _. rows-zero (content s) p u f)))))))))))

pub short_too : (s : List ℕ) → is_accepted (decode Long s).answer ≡ true → is_accepted (decode Short s).answer ≡ true
short_too s e = sym (zero-accepted (decode Short s).answer) ∙ zero_too s (zero-accepted (decode Long s).answer ∙ e)

pub same_stations : (s : List ℕ) → is_accepted (decode Long s).answer ≡ true → AllButContent (decode Short s).frame (decode Long s).frame
unfolding accepted_with frame_at
same_stations s e =
    let a = accepts Short s (short_too s e) in
    let b = accepts Long s e in
    let n : a.count ≡ b.count = sym a.counted ∙ b.counted in
    record {
      source = ap (λ (d : Decoding). d.frame.source) a.made ∙ sym (ap (λ (d : Decoding). d.frame.source) b.made);
      destination = ap (λ (d : Decoding). d.frame.destination) a.made ∙ sym (ap (λ (d : Decoding). d.frame.destination) b.made);
      route = ap (λ (d : Decoding). d.frame.route) a.made ∙ rw n (sym (ap (λ (d : Decoding). d.frame.route) b.made));
      count = ap (λ (d : Decoding). d.frame.route_count) a.made ∙ rw n (sym (ap (λ (d : Decoding). d.frame.route_count) b.made));
      mark = ap (λ (d : Decoding). d.frame.command_or_response) a.made
          ∙ sym (ap (λ (d : Decoding). d.frame.command_or_response) b.made);
    }
