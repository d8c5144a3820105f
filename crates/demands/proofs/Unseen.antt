-- Document 02, M-107, proved: what is read alike at equal length is the same octets, save for excepted bits, and those make
-- no difference.
use Prim.Native.Nat.{ℕ, ◌+◌, ◌-◌, ◌*◌, ◌<◌}
use mathlib.Core.Path.{◌≡◌, refl, ap, sym, ◌∙◌}
use mathlib.Core.Bool.{true, false}
use mathlib.Core.List.{List, [], ◌∷◌, map}
use native.Mathlib.Omega.{arith}
use borrow.Author.Tests.{leb-true, leb-false, le-leb, lt-leb}
use lib.Dec.{leb}
use lib.ListN.{length, get_or}
use Rattle.octets.specs.First.{first}
use Rattle.octets.specs.Octet.{Octets, bit}
use Rattle.octets.specs.Same.{same}
use Rattle.octets.proofs.Choice.{by, and_false}
use Rattle.octets.proofs.Octet.{all_bits, octets-same}
use Rattle.protocol.specs.Pid.{among, pid_of}
use Rattle.address.specs.Address.{no_call}
use Rattle.group.specs.Group.{address_of, mark_of, ssid_octet, group_of}
use Rattle.control.specs.declared.Mode.TheVariants.{Short, Long}
use Rattle.control.specs.declared.Mode.{Mode}
use Rattle.parse.specs.Content.{i_of, s_kind_of, s_of, ui_of, response_of, frmr_of, u_of, content_of}
use Rattle.content_as_written.specs.Unseen.{unseen, has_unseen}
use Rattle.content_as_written.proofs.Unseen.{none-unseen}
use Rattle.frame.specs.Frame.{no_entry, no_route, simple_ui, default_frame}
use Rattle.frame.specs.Spell.{groups_of, address_field, spell, marked}
use Rattle.frame.specs.declared.Ax25Frame.{Ax25Frame}
use Rattle.decode.specs.Answer.{is_accepted}
use Rattle.decode.specs.Read.{end_of, parsed_at, entry_at, place_at, route_at, frame_at, refused_with, accepted_with, with_content, decode_field, decode, info_in}
use Rattle.grammar.proofs.Back.{spelled_end}
use Rattle.grammar.proofs.Plain.{read}
use Rattle.grammar.proofs.Unseen.{SpelledAlike, spelled_alike, read_alike, info_alike}
use Rattle.spelling.specs.Canonical.{again, canonical}
use Rattle.spelling.proofs.Laws.{canonical-plain}
use Rattle.demands.specs.Unseen.{Alike, NoneExcepted, SameSave, NothingUnseen, exceptions, reject, rejects, ready, readies, beside, unseen_at, longer, seen}

module _ (mode : Mode) (s t : List ℕ) (o : Octets s) (p : Octets t) (c : canonical mode s ≡ true) where
  abbrev f : Ax25Frame
  f = (decode mode s).frame

  abbrev after : ℕ
  after = 14 + 7 * f.route_count

  abbrev Seen : Type 0
  Seen = Alike s (decode mode s) t (decode mode t)

  accepted : is_accepted (decode mode s).answer ≡ true
  accepted = (canonical-plain mode s o c).0

  spells : spell mode f (info_in s (decode mode s)) ≡ s
  spells = (canonical-plain mode s o c).2

  -- its content starts there
  ends : end_of s + 1 ≡ after
  ends =
      let e : end_of s ≡ 13 + 7 * f.route_count =
      rw spells at (spelled_end mode f (info_in s (decode mode s)) (canonical-plain mode s o c).1) in
      omega arith

  same_frame : Seen → (decode mode t).frame ≡ f
  same_frame a = sym (read mode t p a.accepted).kept ∙ a.frame ∙ (read mode s o accepted).kept

  -- what the frame and the info of t spell is s
  spelled : Seen → spell mode (decode mode t).frame (info_in t (decode mode t)) ≡ s
  spelled a = rw (same_frame a, a.info) spells

  fits : length t ≡ length s → Seen → SpelledAlike mode t f s
  fits l a =
      let m : marked (decode mode t).frame.command_or_response ≡ true = rw (same_frame a) (canonical-plain mode s o c).1.mark in
      let w : length (spell mode (decode mode t).frame (info_in t (decode mode t))) ≡ length t = rw (spelled a) (sym l) in
      rw (spelled a, same_frame a) at (spelled_alike mode t p a.accepted m w)

  same_save_lem : length t ≡ length s → Seen → SameSave mode f s t
  same_save_lem l a k j h x =
      by (leb after k)
      (λ e. let at : after + (k - after) ≡ k = omega (arith, leb-true after k e) in
      sym (rw at at ((fits l a).content (k - after) j h (rw e at x))))
      (λ e. ap (bit j) (sym ((fits l a).field k (leb-false after k e))))

  octets_lem : length t ≡ length s → Seen → NoneExcepted mode f → t ≡ s
  octets_lem l a n = octets-same t s p o l (λ k j h. same_save_lem l a k j h (n k j))

  tight : length t ≡ length s → SameSave mode f s t → Seen
  tight l x =
      let field : (k : ℕ) → k < end_of s + 1 → get_or t k 0 ≡ get_or s k 0 =
      λ k h. let before : k < after = rw (← ends) h in
      all_bits (get_or t k 0) (get_or s k 0) (p k) (o k) (λ j b. x k j b (rw (lt-leb after k before) refl)) in
      let content : (i j : ℕ) → j < 8 → unseen mode f.content i j ≡ false → bit j (get_or t (end_of s + 1 + i) 0) ≡ bit j (get_or s (end_of s + 1 + i) 0) =
      λ i j b u. let back : after + i - after ≡ i = omega arith in
      rw ends (x (after + i) j b (rw (le-leb after (after + i) (omega arith), back) u)) in
      let d = read_alike mode s t o p accepted l field content in
      record { accepted = rw d accepted; frame = rw d refl; info = info_alike mode s t o p accepted l field content }

  one : canonical mode t ≡ true → Seen → t ≡ s
  one e a = sym (canonical-plain mode t p e).2 ∙ spelled a

  pub nothing-unseen : NothingUnseen mode s (decode mode s) t (decode mode t) (canonical mode t)
  nothing-unseen = record { same = same_save_lem; octets = octets_lem; tight = tight; canonical = one }

-- no frame but an FRMR, and in the long mode an S frame, has excepted bits
pub none-excepted : (mode : Mode) (f : Ax25Frame) → has_unseen mode f.content ≡ false → NoneExcepted mode f
none-excepted mode f n k j =
    let after : ℕ = 14 + 7 * f.route_count in
    rw (none-unseen mode f.content n (k - after) j) (and_false (leb after k))

-- tight, by computing: the five inputs differ from the FRMR in one excepted bit each, which are all there are, and decode as it does; and so
-- in the long mode the four from the RR
pub rejects_alike : (canonical Short reject ≡ true) × (map (beside Short reject) rejects ≡ map (unseen_at Short reject) (exceptions Short reject))
unfolding first same among pid_of no_call address_of mark_of ssid_octet group_of response_of frmr_of u_of content_of no_entry no_route simple_ui default_frame parsed_at entry_at place_at route_at frame_at refused_with accepted_with with_content decode_field decode groups_of address_field spell again canonical unseen
rejects_alike = (refl, refl)

pub readies_alike : (canonical Long ready ≡ true) × (map (beside Long ready) readies ≡ map (unseen_at Long ready) (exceptions Long ready))
unfolding first same among pid_of no_call address_of mark_of ssid_octet group_of s_kind_of s_of content_of no_entry no_route simple_ui default_frame parsed_at entry_at place_at route_at frame_at refused_with accepted_with with_content decode_field decode groups_of address_field spell again canonical unseen
readies_alike = (refl, refl)

-- lengths are needed: each of the longer inputs is read as the canonical one
pub lengths_needed : (map (λ (b : List ℕ × List ℕ). canonical Short b.0) longer ≡ true ∷ true ∷ [])
    × (map (λ (b : List ℕ × List ℕ). seen Short b.1) longer ≡ map (λ (b : List ℕ × List ℕ). seen Short b.0) longer)
unfolding first same among pid_of no_call address_of mark_of ssid_octet group_of i_of s_kind_of s_of ui_of u_of content_of no_entry no_route simple_ui default_frame parsed_at entry_at place_at route_at frame_at refused_with accepted_with with_content decode_field decode groups_of address_field spell again canonical
lengths_needed = (refl, refl)
