-- What decoding does not look at, of octets that are as many: an accepted input as long as what its frame spells is that, save for unseen
-- bits of its content; and an input that differs from an accepted one in such bits alone is read alike.
use Prim.Native.Nat.{ℕ, ◌+◌, ◌*◌, ◌≤◌, ◌<◌}
use mathlib.Core.Path.{◌≡◌, refl, ap, sym, subst, ◌∙◌}
use mathlib.Core.Bool.{true, false}
use mathlib.Core.List.{List, ◌++◌}
use native.Mathlib.Omega.{arith}
use borrow.Author.Tests.{ltb-true}
use lib.Dec.{ltb}
use lib.ListN.{length, length-append, length-drop, get_or, take, drop, get_or-append}
use lib.Seq.{drop-drop, get_or-take, get_or-drop, get_or-append-add, length-take-le, ext_get_or}
use Rattle.octets.specs.Octet.{Octets, bit}
use Rattle.octets.proofs.Choice.{by}
use Rattle.octets.proofs.First.{first_passes, first_before, first_is}
use Rattle.octets.proofs.Octet.{octets-drop, octets-same}
use Rattle.octets.proofs.Place.{get_d_part}
use Rattle.content.specs.Spell.{has_info, front, spell_content}
use Rattle.content.specs.declared.FrameContent.{FrameContent}
use Rattle.control.specs.declared.Mode.{Mode}
use Rattle.parse.specs.Content.{content_of}
use Rattle.std.specs.Prelude.{Ok}
use Rattle.content_as_written.specs.AsWritten.{info_of}
use Rattle.content_as_written.specs.Unseen.{unseen}
use Rattle.content_as_written.proofs.Laws.{content_fits, content_kept}
use Rattle.content_as_written.proofs.Unseen.{content_bits, unseen_read, info-seen}
use Rattle.frame.specs.Spell.{spell, marked}
use Rattle.frame.specs.declared.Ax25Frame.{Ax25Frame}
use Rattle.frame.proofs.Write.{spell-length}
use Rattle.decode.specs.Answer.{is_accepted}
use Rattle.decode.specs.Read.{start_of, end_of, group_at, parsed_at, entry_at, place_at, route_at, frame_at, accepted_with, with_content, decode_field, decode, info_in}
use Rattle.decode.proofs.Read.{start_first}
use Rattle.decode.proofs.Accepts.{Accepts, accepts}
use Rattle.grammar.proofs.Direct.{spell-again, info_tail, made_frame}

-- of an accepted input as long as what its frame spells
module _ (mode : Mode) (s : List ℕ) (o : Octets s) (a : Accepts mode s (decode mode s))
    (m : marked (decode mode s).frame.command_or_response ≡ true) (l : length (spell mode (decode mode s).frame (info_in s (decode mode s))) ≡ length s) where
  abbrev n : ℕ
  n = a.count

  abbrev k : FrameContent
  k = a.kind

  abbrev c : List ℕ
  c = drop (end_of s + 1) s

  abbrev again : List ℕ
  again = spell mode (decode mode s).frame (info_in s (decode mode s))

  again-room : length (front mode k) + length (info_of mode k c) ≤ length c
  again-room =
      by (has_info k)
      (λ e. let w = ap (λ (x : List ℕ). length x) (content_kept mode c (octets-drop s (end_of s + 1) o) k a.read e) in
      omega (arith, w, length-append (front mode k) (info_of mode k c)))
      (λ e. rw e (omega (arith, content_fits mode c k a.read)))

  -- nothing is left over in the address field or stands after the content
  exact : (end_of s ≡ 13 + 7 * n) × (length (front mode k ++ info_of mode k c) ≡ length c)
  unfolding frame_at
  exact =
      let long = a.long in
      let counted = a.counted in
      let inside = a.end_in in
      let rest = length-drop (end_of s + 1) s in
      let join = length-append (front mode k) (info_of mode k c) in
      let w : 14 + 7 * n + length (front mode k) + length (info_of mode k c) ≡ length s =
      sym (rw (made_frame mode s o a, info_tail mode s o a) at (spell-length mode (decode mode s).frame (info_in s (decode mode s)))) ∙ rw (made_frame mode s o a, info_tail mode s o a) at l in
      (omega (arith, again-room), omega (arith, again-room))

  -- its frame spells the address field as it stands, and the content written again
  spelled : again ≡ take (14 + 7 * n) s ++ spell_content mode k (info_of mode k c)
  spelled =
      let x = exact in
      rw (made_frame mode s o a, info_tail mode s o a)
      (spell-again s o n x.0 a.end_in a.few mode k (info_of mode k c) (rw (made_frame mode s o a) at m))

  field-long : length (take (14 + 7 * n) s) ≡ 14 + 7 * n
  field-long = let x = exact in let inside = a.end_in in length-take-le (14 + 7 * n) s (omega arith)

  spelled-field : (p : ℕ) → p < 14 + 7 * n → get_or again p 0 ≡ get_or s p 0
  spelled-field p h =
      rw spelled
      (get_or-append (take (14 + 7 * n) s) _ 0 p (rw field-long h) ∙ get_or-take (14 + 7 * n) s p 0 h)

  spelled-content : (i j : ℕ) → j < 8 → unseen mode k i j ≡ false
      → bit j (get_or again (14 + 7 * n + i) 0) ≡ bit j (get_or s (14 + 7 * n + i) 0)
  spelled-content i j h u =
      let x = exact in
      let at : 14 + 7 * n ≡ end_of s + 1 = omega arith in
      let there : get_or again (14 + 7 * n + i) 0 ≡ get_or (spell_content mode k (info_of mode k c)) i 0 =
      rw spelled
      (ap (λ (y : ℕ). get_or (take (14 + 7 * n) s ++ spell_content mode k (info_of mode k c)) (y + i) 0) (sym field-long)
      ∙ get_or-append-add (take (14 + 7 * n) s) (spell_content mode k (info_of mode k c)) i 0) in
      rw there (content_bits mode c (octets-drop s (end_of s + 1) o) k a.read x.1 i j h u
      ∙ ap (bit j) (get_or-drop (end_of s + 1) s i 0 ∙ ap (λ (y : ℕ). get_or s (y + i) 0) (sym at)))

-- the same said of the decoded frame
pub record SpelledAlike (mode : Mode) (s : List ℕ) (f : Ax25Frame) (t : List ℕ) : Type 0 where
  pub field : (p : ℕ) → p < 14 + 7 * f.route_count → get_or t p 0 ≡ get_or s p 0
  pub content : (i j : ℕ) → j < 8 → unseen mode f.content i j ≡ false
      → bit j (get_or t (14 + 7 * f.route_count + i) 0) ≡ bit j (get_or s (14 + 7 * f.route_count + i) 0)

pub spelled_alike : (mode : Mode) (s : List ℕ) → Octets s → is_accepted (decode mode s).answer ≡ true → marked (decode mode s).frame.command_or_response ≡ true
    → length (spell mode (decode mode s).frame (info_in s (decode mode s))) ≡ length s → SpelledAlike mode s (decode mode s).frame (spell mode (decode mode s).frame (info_in s (decode mode s)))
unfolding frame_at
spelled_alike mode s o e m l =
    let a = accepts mode s e in
    subst (λ (f : Ax25Frame). SpelledAlike mode s f (spell mode (decode mode s).frame (info_in s (decode mode s)))) (sym (made_frame mode s o a))
    (record { field = spelled-field mode s o a m l; content = spelled-content mode s o a m l })

-- what is read of another input, as long, that has the octets of the address field, and content that is read as the same
module _ (mode : Mode) (s t : List ℕ) (a : Accepts mode s (decode mode s)) (l : length t ≡ length s) (field : (p : ℕ) → p < end_of s + 1 → get_or t p 0 ≡ get_or s p 0)
    (c : content_of mode (drop (end_of s + 1) t) ≡ Ok a.kind) where
  same_start : start_of t ≡ start_of s
  same_start =
      let inside = a.end_in in
      start_first t (rw (field 0 (omega arith)) a.first) ∙ sym (start_first s a.first)

  same_end : end_of t ≡ end_of s
  same_end =
      first_is (bit 0) t 0 (end_of s) (rw l a.end_in)
      (rw (field (end_of s) (omega arith)) (first_passes (bit 0) s 0 a.end_in))
      (λ p h. rw (field p (omega arith)) (first_before (bit 0) s 0 p h))

  same_group : (at : ℕ) → at + 7 ≤ end_of s + 1 → group_at t at ≡ group_at s at
  same_group at h =
      let inside = a.end_in in
      let x : length (group_at t at) ≡ 7 = length-take-le 7 (drop at t) (rw (length-drop, l) (omega arith)) in
      let y : length (group_at s at) ≡ 7 = length-take-le 7 (drop at s) (rw length-drop (omega arith)) in
      ext_get_or 0 (group_at t at) (group_at s at) (x ∙ sym y)
      (λ p b. let p7 : p < 7 = rw x at b in
      get_d_part 7 at t p 0 p7 ∙ field (at + p) (omega arith) ∙ sym (get_d_part 7 at s p 0 p7))

  same_place : (i : ℕ) → place_at t 14 a.count i ≡ place_at s 14 a.count i
  unfolding place_at entry_at parsed_at
  same_place i =
      by (ltb i a.count)
      (λ e. let long = a.long in
      let counted = a.counted in
      let inner = ltb-true i a.count e in
      rw (e, same_group (14 + 7 * i) (omega arith)) refl)
      (λ e. rw e refl)

  same_frame : frame_at t 0 a.count a.kind ≡ frame_at s 0 a.count a.kind
  unfolding frame_at parsed_at route_at
  same_frame =
      let long = a.long in
      simp (same_group 0 (omega arith), same_group 7 (omega arith), same_place)

  same-decode : decode mode t ≡ decode mode s
  unfolding decode decode_field with_content
  same-decode = rw (same_start, same_end, l, c, a.read, a.counted, same_frame) (rw l refl)

-- an input that differs from an accepted one in unseen bits of its content alone is read alike: all that decoding gives, and the info octets
module _ (mode : Mode) (s t : List ℕ) (o : Octets s) (p : Octets t) (e : is_accepted (decode mode s).answer ≡ true) (l : length t ≡ length s)
    (field : (q : ℕ) → q < end_of s + 1 → get_or t q 0 ≡ get_or s q 0)
    (content : (i j : ℕ) → j < 8 → unseen mode (decode mode s).frame.content i j ≡ false
    → bit j (get_or t (end_of s + 1 + i) 0) ≡ bit j (get_or s (end_of s + 1 + i) 0)) where
  abbrev y : Accepts mode s (decode mode s)
  y = accepts mode s e

  abbrev x : ℕ
  x = end_of s + 1

  kind_is : (decode mode s).frame.content ≡ y.kind
  unfolding frame_at
  kind_is = ap (λ (f : Ax25Frame). f.content) (made_frame mode s o y)

  bits : (i j : ℕ) → j < 8 → unseen mode y.kind i j ≡ false → bit j (get_or (drop x t) i 0) ≡ bit j (get_or (drop x s) i 0)
  bits i j h u = rw (get_or-drop x t i 0, get_or-drop x s i 0) (content i j h (rw kind_is u))

  rest : length (drop x t) ≡ length (drop x s)
  rest = length-drop x t ∙ rw l (sym (length-drop x s))

  pub read_alike : decode mode t ≡ decode mode s
  read_alike =
      same-decode mode s t y l field
      (unseen_read (drop x s) (drop x t) (octets-drop s x o) (octets-drop t x p) rest mode y.kind y.read bits)

  pub info_alike : info_in t (decode mode t) ≡ info_in s (decode mode s)
  unfolding accepted_with frame_at
  info_alike =
      rw read_alike (rw y.made
      (by (has_info y.kind)
      (λ h. let same : drop x t ≡ drop x s =
      octets-same (drop x t) (drop x s) (octets-drop t x p) (octets-drop s x o) rest (λ i j b. bits i j b (info-seen mode y.kind h i j)) in
      let b : ℕ = length (front mode y.kind) in
      simp h (rw (← drop-drop b x t, ← drop-drop b x s, same) refl))
      (λ h. simp h)))
