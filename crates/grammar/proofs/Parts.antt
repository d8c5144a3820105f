-- What of an accepted input's octets is spelled again: the groups and the marks of destination and source, and so much of its content.
use Prim.Native.Nat.{ℕ, ◌+◌, ◌-◌, ◌≤◌}
use mathlib.Core.Path.{◌≡◌, refl, sym, subst}
use mathlib.Core.Bool.{true}
use mathlib.Core.List.{List}
use native.Mathlib.Omega.{arith}
use lib.ListN.{length, length-drop, get_or, take, drop}
use Rattle.octets.specs.Octet.{Octets}
use Rattle.octets.proofs.Choice.{by}
use Rattle.group.specs.Group.{address_of, mark_set}
use Rattle.content.specs.Spell.{has_info, front}
use Rattle.content.specs.declared.FrameContent.{FrameContent}
use Rattle.control.specs.declared.Mode.{Mode}
use Rattle.parse.specs.Content.{content_of}
use Rattle.std.specs.Prelude.{Ok}
use Rattle.content_as_written.proofs.Laws.{content_fits}
use Rattle.decode.specs.Answer.{is_accepted}
use Rattle.decode.specs.Read.{end_of, group_at, parsed_at, command_of, frame_at, accepted_with, decode, info_in, Decoding}
use Rattle.decode.proofs.Accepts.{Accepts, accepts}
use Rattle.grammar.specs.Kept.{kept_of}
use Rattle.grammar.proofs.Direct.{parsed_mark}

pub record Parts (mode : Mode) (s : List ℕ) (d : Decoding) : Type 0 where
  pub destination : d.frame.destination ≡ address_of (group_at s 0)
  pub source : d.frame.source ≡ address_of (group_at s 7)
  pub mark : d.frame.command_or_response ≡ command_of (mark_set (get_or s 6 0)) (mark_set (get_or s 13 0))
  pub content : content_of mode (drop (end_of s + 1) s) ≡ Ok d.frame.content
  -- of the content this many octets, which stand in the input: those before the info, then the info
  pub kept : end_of s + 1 + kept_of mode d.frame.content (length s - (end_of s + 1)) ≤ length s
  pub before : length (front mode d.frame.content) ≤ kept_of mode d.frame.content (length s - (end_of s + 1))
  pub carried : d.info_len ≡ kept_of mode d.frame.content (length s - (end_of s + 1)) - length (front mode d.frame.content)
  pub info : info_in s d ≡ take d.info_len (drop (end_of s + 1 + length (front mode d.frame.content)) s)

module _ (mode : Mode) (s : List ℕ) (o : Octets s) (a : Accepts mode s (decode mode s)) where
  abbrev k : FrameContent
  k = a.kind

  abbrev d : Decoding
  d = accepted_with mode (frame_at s 0 a.count k) (end_of s + 1) (length s)

  room : length (drop (end_of s + 1) s) ≡ length s - (end_of s + 1)
  room = length-drop (end_of s + 1) s

  marks : command_of (parsed_at s 0).high_bit (parsed_at s 7).high_bit
      ≡ command_of (mark_set (get_or s 6 0)) (mark_set (get_or s 13 0))
  marks = rw (parsed_mark s 0, parsed_mark s 7) refl

  made : Parts mode s d
  unfolding accepted_with frame_at parsed_at
  made =
      let fits = content_fits mode _ k a.read in
      let r = room in
      let n = a.end_in in
      record {
        destination = refl;
        source = refl;
        mark = marks;
        content = a.read;
        kept = by (has_info k) (λ e. simp e (omega arith)) (λ e. simp e (omega arith));
        before = by (has_info k) (λ e. simp e (omega arith)) (λ e. simp e (omega arith));
        carried = by (has_info k) (λ e. simp e (omega arith)) (λ e. simp e (omega arith));
        info = by (has_info k) (λ e. simp e) (λ e. simp e);
      }

pub parts : (mode : Mode) (s : List ℕ) → Octets s → is_accepted (decode mode s).answer ≡ true → Parts mode s (decode mode s)
parts mode s o e = let a = accepts mode s e in subst (λ (d : Decoding). Parts mode s d) (sym a.made) (made mode s o a)
