-- What decoding accepts is plain once the mark is there, and spells no more octets than were read.
use Prim.Native.Nat.{ℕ, zero, suc, ◌+◌, ◌-◌, ◌*◌, ◌≤◌, ◌<◌}
use mathlib.Core.Path.{◌≡◌, refl, sym, subst}
use mathlib.Core.Bool.{true, cond}
use mathlib.Core.List.{List}
use native.Mathlib.Omega.{arith}
use borrow.Author.Tests.{not-true, eqb-false}
use lib.Dec.{eqb, ltb}
use lib.ListN.{length, length-drop, length-take, get_or, drop}
use lib.Seq.{length-take-le}
use Rattle.octets.specs.Octet.{Octets, bit}
use Rattle.octets.proofs.Choice.{by}
use Rattle.octets.proofs.Octet.{octets-drop, octets-take}
use Rattle.octets.proofs.First.{first_before}
use Rattle.octets.proofs.Place.{get_d_part}
use Rattle.address.specs.Address.{PlainAddress}
use Rattle.address.proofs.Laws.{no_call-plain}
use Rattle.group.proofs.Laws.{read_plain, group-character}
use Rattle.content.specs.Spell.{has_info, front, PlainContent}
use Rattle.content.specs.declared.FrameContent.{FrameContent}
use Rattle.control.specs.declared.Mode.{Mode}
use Rattle.content_as_written.proofs.Laws.{content-plain, content_fits, content_some}
use Rattle.frame.specs.Frame.{no_entry}
use Rattle.decode.specs.Answer.{is_accepted}
use Rattle.decode.specs.Read.{nonzero, end_of, group_at, parsed_at, entry_at, place_at, route_at, repeaters_of, frame_at, accepted_with, decode, info_in, Decoding}
use Rattle.frame.specs.Spell.{repeater_at, marked, made_command, with_mark, spell, Plain, place_in_use, route_in_use, in_use}
use Rattle.frame.proofs.Write.{spell-length}
use Rattle.frame.specs.declared.Mark.{Mark}
use Rattle.frame.specs.declared.Mark.TheVariants.{Command, Response, Absent}
use Rattle.frame.specs.declared.Ax25Frame.{Ax25Frame}
use Rattle.decode.proofs.Accepts.{Accepts, accepts}

made-marked : (m : Mark) → marked (made_command m) ≡ true
made-marked Command = refl
made-marked Response = refl
made-marked Absent = refl

parsed-plain : (s : List ℕ) (at : ℕ) → Octets s → PlainAddress (parsed_at s at).address
unfolding parsed_at
parsed-plain s at o = read_plain (group_at s at) (octets-take (drop at s) 7 (octets-drop s at o))

place-plain : (s : List ℕ) (at n k : ℕ) → Octets s → PlainAddress (place_at s at n k).repeater
unfolding place_at no_entry entry_at
place-plain s at n k o = by (ltb k n) (λ e. rw e (parsed-plain s (at + 7 * k) o)) (λ e. rw e no_call-plain)

places-plain : (s : List ℕ) (at n : ℕ) → Octets s → (k : ℕ) → k < 8 → PlainAddress (repeater_at (route_at s at n) k).repeater
unfolding route_at
places-plain s at n o zero h = place-plain s at n 0 o
places-plain s at n o (suc zero) h = place-plain s at n 1 o
places-plain s at n o (suc (suc zero)) h = place-plain s at n 2 o
places-plain s at n o (suc (suc (suc zero))) h = place-plain s at n 3 o
places-plain s at n o (suc (suc (suc (suc zero)))) h = place-plain s at n 4 o
places-plain s at n o (suc (suc (suc (suc (suc zero))))) h = place-plain s at n 5 o
places-plain s at n o (suc (suc (suc (suc (suc (suc zero)))))) h = place-plain s at n 6 o
places-plain s at n o (suc (suc (suc (suc (suc (suc (suc zero))))))) h = place-plain s at n 7 o
places-plain s at n o (suc (suc (suc (suc (suc (suc (suc (suc k)))))))) h = absurd (omega arith)

-- the unused places of what is read are as they should be
place_kept : (s : List ℕ) (at n k : ℕ) → cond (ltb k n) (place_at s at n k) no_entry ≡ place_at s at n k
unfolding place_at
place_kept s at n k = by (ltb k n) (λ e. simp e) (λ e. simp e)

route_kept : (s : List ℕ) (at n : ℕ) → route_in_use (route_at s at n) n ≡ route_at s at n
unfolding route_in_use place_in_use route_at
route_kept s at n = simp place_kept

route_eight : (s : List ℕ) (at n : ℕ) → length (route_at s at n) ≡ 8
unfolding route_at
route_eight s at n = refl

-- what is known of an accepted decode
pub record Read (mode : Mode) (s : List ℕ) (d : Decoding) : Type 0 where
  pub plain : Plain mode (with_mark d.frame) (info_in s d)
  pub fits : length (spell mode (with_mark d.frame) (info_in s d)) ≤ length s
  pub kept : in_use d.frame ≡ d.frame

module _ (s : List ℕ) (o : Octets s) (n : ℕ) (first : nonzero (get_or s 0 0) ≡ true) (end-in : end_of s < length s)
    (long : 14 ≤ end_of s + 1) (count : repeaters_of 0 (end_of s) ≡ n) (few : n ≤ 8) where
  -- the first octet is even and not 0
  first-character : 0 < get_or (parsed_at s 0).address.callsign 0 0
  unfolding parsed_at
  first-character =
      let g : List ℕ = group_at s 0 in
      let b : ℕ = get_or s 0 0 in
      let at : get_or g 0 0 ≡ b = get_d_part 7 0 s 0 0 (omega arith) in
      let some : 0 < b = omega (arith, eqb-false b 0 (not-true (eqb b 0) first)) in
      group-character g (octets-take s 7 o) (rw at (first_before (bit 0) s 0 0 (omega arith))) (rw at some)

  module _ (mode : Mode) (k : FrameContent) (h : PlainContent mode k) (l : length (front mode k) ≤ length (drop (end_of s + 1) s)) where
    abbrev d : Decoding
    d = accepted_with mode (frame_at s 0 n k) (end_of s + 1) (length s)

    d-plain : Plain mode (with_mark d.frame) (info_in s d)
    unfolding accepted_with frame_at with_mark
    d-plain = record {
      mark = made-marked d.frame.command_or_response;
      content = h;
      destination = parsed-plain s 0 o;
      source = parsed-plain s 7 o;
      repeaters = λ i m. places-plain s 14 n o i (omega arith);
      eight = route_eight s 14 n;
      count = few;
      starts = first-character;
      bare = λ e. simp e;
      octets = octets-take (drop d.info_start s) d.info_len (octets-drop s d.info_start o);
    }

    d_fits : length (spell mode (with_mark d.frame) (info_in s d)) ≤ length s
    unfolding accepted_with frame_at with_mark
    d_fits =
        let m : 14 + 7 * n ≤ end_of s + 1 = omega arith in
        let r : length (front mode k) ≤ length s - (end_of s + 1) = rw length-drop at l in
        rw spell-length
        (by (has_info k)
        (λ e. let b : ℕ = length (front mode k) in
        simp e (omega (arith, length-take (length s - (end_of s + 1 + b)) (drop (end_of s + 1 + b) s))))
        (λ e. simp e (omega arith)))

    d_kept : in_use d.frame ≡ d.frame
    unfolding accepted_with frame_at in_use
    d_kept = simp route_kept

    made : Read mode s d
    made = record { plain = d-plain; fits = d_fits; kept = d_kept }

pub read : (mode : Mode) (s : List ℕ) → Octets s → is_accepted (decode mode s).answer ≡ true → Read mode s (decode mode s)
read mode s o e =
    let a = accepts mode s e in
    let after : List ℕ = drop (end_of s + 1) s in
    let at = made s o a.count a.first a.end_in a.long a.counted a.few mode a.kind
    (content-plain mode after (octets-drop s (end_of s + 1) o) a.kind a.read) (content_fits mode after a.kind a.read) in
    subst (λ (d : Decoding). Read mode s d) (sym a.made) at

-- the octets of an accepted input that the check looks at stand in it, and so does the info
pub record Inside (s : List ℕ) (d : Decoding) : Type 0 where
  pub few : d.frame.route_count ≤ 8
  pub groups : 14 + 7 * d.frame.route_count < length s
  pub info : d.info_start + d.info_len ≤ length s

inside_made : (mode : Mode) (s : List ℕ) (a : Accepts mode s (decode mode s)) → Inside s (accepted_with mode (frame_at s 0 a.count a.kind) (end_of s + 1) (length s))
unfolding accepted_with frame_at
inside_made mode s a =
    let some : 0 < length (drop (end_of s + 1) s) = content_some mode _ _ a.read in
    let l = length-drop (end_of s + 1) s in
    let counted = a.counted in
    let long = a.long in
    record {
      few = a.few;
      groups = omega arith;
      info = by (has_info a.kind)
          (λ e. simp e (omega (arith, content_fits mode _ _ a.read)))
          (λ e. simp e (omega arith));
    }

pub inside : (mode : Mode) (s : List ℕ) → is_accepted (decode mode s).answer ≡ true → Inside s (decode mode s)
inside mode s e = let a = accepts mode s e in subst (λ (d : Decoding). Inside s d) (sym a.made) (inside_made mode s a)

pub info-length : (s : List ℕ) (d : Decoding) → Inside s d → length (info_in s d) ≡ d.info_len
info-length s d i = length-take-le d.info_len (drop d.info_start s) (rw length-drop (omega (arith, i.info)))

-- the stations of an accepted frame are plain
pub record Stations (f : Ax25Frame) : Type 0 where
  pub destination : PlainAddress f.destination
  pub source : PlainAddress f.source
  pub repeaters : (i : ℕ) → i < f.route_count → PlainAddress (repeater_at f.route i).repeater

pub stations : (mode : Mode) (s : List ℕ) → Octets s → is_accepted (decode mode s).answer ≡ true → Stations (decode mode s).frame
unfolding with_mark
stations mode s o e =
    let p = (read mode s o e).plain in
    record { destination = p.destination; source = p.source; repeaters = p.repeaters }
