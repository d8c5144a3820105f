-- The direct test and spelling: what is spelled passes, and what passes is what its reading spells.
use Prim.Native.Nat.{ℕ, ◌+◌, ◌*◌, ◌/◌, ◌%◌, ◌<◌, ◌≤◌}
use mathlib.Core.Path.{◌≡◌, refl, ap, sym, ◌∙◌}
use mathlib.Core.Bool.{Bool, true, false, false≢true, cond, not, ◌&&◌, ◌||◌}
use mathlib.Core.List.{List, [], ◌∷◌, ◌++◌, append-nil, append_assoc}
use native.Mathlib.Omega.{arith}
use borrow.Author.Tests.{eq-eqb, ne_eqb, eqb-true, ltb-false, not-true}
use lib.Dec.{eqb, ltb}
use lib.ListN.{length, get_or, drop}
use Rattle.octets.specs.Octet.{Octets, field, bit}
use Rattle.octets.proofs.Choice.{both}
use Rattle.octets.proofs.Octet.{octet-same, octet_where}
use Rattle.protocol.specs.Pid.{octet_of}
use Rattle.protocol.proofs.Laws.{octet_pid}
use Rattle.control.specs.Mode.{controls}
use Rattle.control.specs.Control.{rr, rnr, rej, srej, sabm, sabme, disc, dm, ua, frmr, ui, xid, test, receive_of, send_of, poll_of, s_kind, u_kind, receive_in, poll_in}
use Rattle.parse.specs.Content.{i_fields_of, response_of}
use Rattle.control.specs.Spell.{numbered, received, sent, sequenced, unnumbered, flags}
use Rattle.content.specs.Spell.{has_info, is_response, front, spell_content, PlainContent}
use Rattle.parse.specs.Numbers.{is_frmr}
use Rattle.content_as_written.specs.AsWritten.{frmr_tidy, s_tidy, is_tidy, u_tail, has_tail, as_written, info_of}
use Rattle.content_as_written.proofs.Back.{flags_below, low-back}
use Rattle.parse.proofs.Read.{Reads}
use Rattle.parse.proofs.Read.Reads.{i_frame, rr_frame, rnr_frame, rej_frame, srej_frame, sabm_frame, sabme_frame, disc_frame, dm_frame, ua_frame, frmr_frame, ui_frame, xid_frame, test_frame}
use Rattle.control.specs.declared.Mode.{Mode}
use Rattle.control.specs.declared.Mode.TheVariants.{Short, Long}
use Rattle.content.specs.declared.CommandResponse.TheVariants.{Command, Response}
use Rattle.content.specs.declared.FrameContent.{FrameContent}
use Rattle.content.specs.declared.FrameContent.TheVariants as kind

-- an octet that is taken apart and put together again
pub numbered-again : (b : ℕ) → b < 256 → numbered (receive_of b) (poll_of b) (s_kind b) ≡ b
numbered-again b h = octet-same (λ n. numbered (receive_of n) (poll_of n) (s_kind n)) (λ n. n) tt b h

sent_even : (b : ℕ) → b < 256 → numbered (receive_of b) (poll_of b) (sent Short (send_of b)) ≡ b / 2 * 2
sent_even b h = octet-same (λ n. numbered (receive_of n) (poll_of n) (sent Short (send_of n))) (λ n. n / 2 * 2) tt b h

pub sent-again : (b : ℕ) → b < 256 → field 0 1 b ≡ 0 → numbered (receive_of b) (poll_of b) (sent Short (send_of b)) ≡ b
sent-again b h e = sent_even b h ∙ omega arith

pub received-again : (b : ℕ) → b < 256 → received (field 1 7 b) (bit 0 b) ≡ b
received-again b h = octet-same (λ n. received (field 1 7 n) (bit 0 n)) (λ n. n) tt b h

pub unnumbered-again : (b : ℕ) → b < 256 → unnumbered (u_kind b) (poll_of b) ≡ b
unnumbered-again b h = octet-same (λ n. unnumbered (u_kind n) (poll_of n)) (λ n. n) tt b h

flags-again : (b : ℕ) → b < 256 → field 4 4 b ≡ 0 → flags (bit 3 b) (bit 2 b) (bit 1 b) (bit 0 b) ≡ b
flags-again b h e = octet-same (λ n. flags (bit 3 n) (bit 2 n) (bit 1 n) (bit 0 n)) (λ n. n % 16) tt b h ∙ omega arith

response-again : (b : Bool) → is_response (cond b Response Command) ≡ b
response-again true = refl
response-again false = refl

pub copy_even : (b : ℕ) → b < 256 → numbered (receive_of b) (is_response (response_of b)) (sent Short (send_of b)) ≡ b / 2 * 2
unfolding response_of
copy_even b h = rw (response-again (bit 4 b)) (sent_even b h)

-- a list by its elements
one_part : (s : List ℕ) (a : ℕ) → length s ≡ 1 → a ≡ get_or s 0 0 → a ∷ [] ≡ s
one_part [] a h e = absurd (omega arith)
one_part (x ∷ []) a h e = ap (λ (n : ℕ). n ∷ []) e
one_part (x ∷ y ∷ s) a h e = absurd (omega arith)

one_then : (s : List ℕ) (a : ℕ) → 0 < length s → a ≡ get_or s 0 0 → a ∷ drop 1 s ≡ s
one_then [] a h p = absurd (omega arith)
one_then (x ∷ s) a h p = ap (λ (n : ℕ). n ∷ s) p

two_then : (s : List ℕ) (a b : ℕ) → 2 ≤ length s → a ≡ get_or s 0 0 → b ≡ get_or s 1 0 → a ∷ b ∷ drop 2 s ≡ s
two_then [] a b h p q = absurd (omega arith)
two_then (x ∷ []) a b h p q = absurd (omega arith)
two_then (x ∷ y ∷ s) a b h p q = cc

two_parts : (s : List ℕ) (a b : ℕ) → length s ≡ 2 → a ≡ get_or s 0 0 → b ≡ get_or s 1 0 → a ∷ b ∷ [] ≡ s
two_parts [] a b h p q = absurd (omega arith)
two_parts (x ∷ []) a b h p q = absurd (omega arith)
two_parts (x ∷ y ∷ []) a b h p q = cc
two_parts (x ∷ y ∷ z ∷ s) a b h p q = absurd (omega arith)

three-then : (s : List ℕ) (a b c : ℕ) → 3 ≤ length s → a ≡ get_or s 0 0 → b ≡ get_or s 1 0 → c ≡ get_or s 2 0 → a ∷ b ∷ c ∷ drop 3 s ≡ s
three-then [] a b c h p q r = absurd (omega arith)
three-then (x ∷ []) a b c h p q r = absurd (omega arith)
three-then (x ∷ y ∷ []) a b c h p q r = absurd (omega arith)
three-then (x ∷ y ∷ z ∷ s) a b c h p q r = cc

four_parts : (s : List ℕ) (a b c d : ℕ) → length s ≡ 4 → a ≡ get_or s 0 0 → b ≡ get_or s 1 0 → c ≡ get_or s 2 0 → d ≡ get_or s 3 0
    → a ∷ b ∷ c ∷ d ∷ [] ≡ s
four_parts [] a b c d h p q r t = absurd (omega arith)
four_parts (v ∷ []) a b c d h p q r t = absurd (omega arith)
four_parts (v ∷ x ∷ []) a b c d h p q r t = absurd (omega arith)
four_parts (v ∷ x ∷ y ∷ []) a b c d h p q r t = absurd (omega arith)
four_parts (v ∷ x ∷ y ∷ z ∷ []) a b c d h p q r t = cc
four_parts (v ∷ x ∷ y ∷ z ∷ u ∷ s) a b c d h p q r t = absurd (omega arith)

-- the tests at each sort of kind
abbrev carries : ℕ → Bool
carries k = eqb k ui || eqb k xid || eqb k test

module _ (m : Mode) (s : List ℕ) where
  abbrev c : ℕ
  c = get_or s 0 0

  as-written_i : field 0 1 c ≡ 0 → as_written m s ≡ true
  unfolding has_tail is_tidy
  as-written_i e =
      simp (eq-eqb (field 0 1 c) 0 e, ne_eqb (field 0 2 c) 1 (λ z. omega arith), ne_eqb (u_kind c) frmr (λ z. omega arith))

  as-written_s : field 0 2 c ≡ 1 → as_written m s ≡ (not (ltb (controls m) (length s)) && s_tidy m c)
  unfolding has_tail is_tidy
  as-written_s e = simp (ne_eqb (field 0 1 c) 0 (λ z. omega arith), eq-eqb (field 0 2 c) 1 e)

  by_kind : (k : ℕ) → field 0 2 k ≡ 3 → u_kind c ≡ k
      → as_written m s ≡ (not (u_tail c (length s)) && cond (is_frmr c) (frmr_tidy (get_or s 1 0) (get_or s 2 0)) true)
  unfolding has_tail is_tidy
  by_kind k w e = simp (ne_eqb (field 0 1 c) 0 (λ z. omega arith), ne_eqb (field 0 2 c) 1 (λ z. omega arith))

  as-written_info : (k : ℕ) → field 0 2 k ≡ 3 → carries k ≡ true → eqb k frmr ≡ false → u_kind c ≡ k → as_written m s ≡ true
  as-written_info k w a b e = by_kind k w e ∙ rw (e, a, b) refl

  as-written-frmr : u_kind c ≡ frmr → as_written m s ≡ frmr_tidy (get_or s 1 0) (get_or s 2 0)
  as-written-frmr e = by_kind frmr refl e ∙ rw e refl

  as-written_u : (k : ℕ) → field 0 2 k ≡ 3 → carries k ≡ false → eqb k frmr ≡ false → u_kind c ≡ k → as_written m s ≡ (not (ltb 1 (length s)) && true)
  as-written_u k w a b e = by_kind k w e ∙ rw (e, a, b) refl

-- content with info is what its reading spells, whatever its octets are
i_exact : (m : Mode) (s : List ℕ) → Octets s → controls m + 1 ≤ length s → field 0 1 (get_or s 0 0) ≡ 0
    → spell_content m (kind.Information (i_fields_of m s)) (drop (length (front m (kind.Information (i_fields_of m s)))) s) ≡ s
i_exact Short s o n t = two_then s _ _ n (sent-again (get_or s 0 0) (o 0) t) (octet_pid (get_or s 1 0) (o 1))
i_exact Long s o n t =
    let h : get_or s 0 0 < 256 = o 0 in
    three-then s _ _ _ n (omega arith) (received-again (get_or s 1 0) (o 1)) (octet_pid (get_or s 2 0) (o 2))

pub info_exact : (m : Mode) (s : List ℕ) → Octets s → {k : FrameContent} → Reads m s k → has_info k ≡ true → spell_content m k (info_of m k s) ≡ s
info_exact m s o (i_frame n t) e = i_exact m s o n t
info_exact m s o (rr_frame n t) e = absurd (false≢true e)
info_exact m s o (rnr_frame n t) e = absurd (false≢true e)
info_exact m s o (rej_frame n t) e = absurd (false≢true e)
info_exact m s o (srej_frame n t) e = absurd (false≢true e)
info_exact m s o (sabm_frame n t) e = absurd (false≢true e)
info_exact m s o (sabme_frame n t) e = absurd (false≢true e)
info_exact m s o (disc_frame n t) e = absurd (false≢true e)
info_exact m s o (dm_frame n t) e = absurd (false≢true e)
info_exact m s o (ua_frame n t) e = absurd (false≢true e)
info_exact m s o (frmr_frame a n t) e = absurd (false≢true e)
info_exact m s o (ui_frame n t) e =
    two_then s _ _ n (rw t at (unnumbered-again (get_or s 0 0) (o 0))) (octet_pid (get_or s 1 0) (o 1))
info_exact m s o (xid_frame n t) e = one_then s _ n (rw t at (unnumbered-again (get_or s 0 0) (o 0)))
info_exact m s o (test_frame n t) e = one_then s _ n (rw t at (unnumbered-again (get_or s 0 0) (o 0)))

-- the control field of an S frame that is tidy and has no tail
tidy-again : (m : Mode) (s : List ℕ) → Octets s → (k : ℕ) → s_kind (get_or s 0 0) ≡ k → s_tidy m (get_or s 0 0) ≡ true → length s ≡ controls m
    → sequenced m (receive_in m s) (poll_in m s) k ≡ s
tidy-again Short s o k e t l = one_part s _ l (rw e at (numbered-again (get_or s 0 0) (o 0)))
tidy-again Long s o k e t l =
    let h : get_or s 0 0 < 256 = o 0 in
    two_parts s _ _ l (omega (arith, e, eqb-true (field 4 4 (get_or s 0 0)) 0 t)) (received-again (get_or s 1 0) (o 1))

-- what passes is what its reading spells
module _ (m : Mode) (s : List ℕ) (o : Octets s) (passed : as_written m s ≡ true) where
  -- what is as long as its kind, at least, and has no tail is just as long
  no_longer : (n : ℕ) → n ≤ length s → not (ltb n (length s)) ≡ true → length s ≡ n
  no_longer n l t = omega (arith, l, ltb-false n (length s) (not-true _ t))

  s_exact : (k : ℕ) → k % 4 ≡ 1 → controls m ≤ length s → s_kind (get_or s 0 0) ≡ k → sequenced m (receive_in m s) (poll_in m s) k ++ [] ≡ s
  s_exact k w n e =
      let h = both (not (ltb (controls m) (length s))) (s_tidy m (get_or s 0 0)) (sym (as-written_s m s (omega arith)) ∙ passed) in
      append-nil _ ∙ tidy-again m s o k e h.1 (no_longer (controls m) n h.0)

  u_exact : (k : ℕ) → field 0 2 k ≡ 3 → carries k ≡ false → eqb k frmr ≡ false → 0 < length s → u_kind (get_or s 0 0) ≡ k
      → unnumbered k (poll_of (get_or s 0 0)) ∷ [] ≡ s
  u_exact k w a b n e =
      let h = both (not (ltb 1 (length s))) true (sym (as-written_u m s k w a b e) ∙ passed) in
      one_part s _ (no_longer 1 n h.0) (rw e at (unnumbered-again (get_or s 0 0) (o 0)))

  pub as-written_exact : {k : FrameContent} → Reads m s k → spell_content m k (info_of m k s) ≡ s
  as-written_exact (i_frame n t) = info_exact m s o (i_frame n t) refl
  as-written_exact (rr_frame n t) = s_exact rr refl n t
  as-written_exact (rnr_frame n t) = s_exact rnr refl n t
  as-written_exact (rej_frame n t) = s_exact rej refl n t
  as-written_exact (srej_frame n t) = s_exact srej refl n t
  as-written_exact (sabm_frame n t) = u_exact sabm refl refl refl n t
  as-written_exact (sabme_frame n t) = u_exact sabme refl refl refl n t
  as-written_exact (disc_frame n t) = u_exact disc refl refl refl n t
  as-written_exact (dm_frame n t) = u_exact dm refl refl refl n t
  as-written_exact (ua_frame n t) = u_exact ua refl refl refl n t
  as-written_exact (frmr_frame a n t) =
      let tidy = both (eqb (field 4 4 (get_or s 1 0)) 0) (eqb (field 0 1 (get_or s 2 0)) 0) (sym (as-written-frmr m s t) ∙ passed) in
      four_parts s _ _ _ _ n (rw t at (unnumbered-again (get_or s 0 0) (o 0)))
      (flags-again (get_or s 1 0) (o 1) (eqb-true (field 4 4 (get_or s 1 0)) 0 tidy.0))
      (copy_even (get_or s 2 0) (o 2) ∙ omega (arith, eqb-true (field 0 1 (get_or s 2 0)) 0 tidy.1)) refl
  as-written_exact (ui_frame n t) = info_exact m s o (ui_frame n t) refl
  as-written_exact (xid_frame n t) = info_exact m s o (xid_frame n t) refl
  as-written_exact (test_frame n t) = info_exact m s o (test_frame n t) refl

low_none : (n : ℕ) (p : Bool) (v : ℕ) → field 0 1 (numbered n p (sent Short v)) ≡ 0
low_none n p v = omega (arith, low-back n (sent Short v) (omega arith) p)

-- an I or S control field that is spelled passes
i_spelled : (m : Mode) (n : ℕ) (p : Bool) (v : ℕ) (r : List ℕ) → as_written m (sequenced m n p (sent m v) ++ r) ≡ true
i_spelled Short n p v r = as-written_i Short _ (low_none n p v)
i_spelled Long n p v r = as-written_i Long _ (omega arith)

s_spelled : (m : Mode) (n : ℕ) (p : Bool) (k : ℕ) → k < 16 → k % 4 ≡ 1 → as_written m (sequenced m n p k) ≡ true
s_spelled Short n p k h e = as-written_s Short (numbered n p k ∷ []) (omega (arith, low-back n k h p))
s_spelled Long n p k h e =
    as-written_s Long (k ∷ received n p ∷ []) (omega arith) ∙ rw (eq-eqb (field 4 4 k) 0 (omega arith)) refl

unnumbered_kind : (k : ℕ) (p : Bool) → k < 256 → eqb (u_kind k) k ≡ true → u_kind (unnumbered k p) ≡ k
unnumbered_kind k true h e =
    eqb-true _ _ (octet_where (λ n. eqb (u_kind n) n) (λ n. eqb (u_kind (unnumbered n true)) n) tt k h e)
unnumbered_kind k false h e =
    eqb-true _ _ (octet_where (λ n. eqb (u_kind n) n) (λ n. eqb (u_kind (unnumbered n false)) n) tt k h e)

-- what plain content spells passes
module _ (m : Mode) where
  s_bare : (n : ℕ) (p : Bool) (k : ℕ) → k < 16 → k % 4 ≡ 1 → (i : List ℕ) → i ≡ [] → as_written m (sequenced m n p k ++ i) ≡ true
  s_bare n p k h e i z = rw (z, append-nil (sequenced m n p k)) (s_spelled m n p k h e)

  u_bare : (k : ℕ) (p : Bool) → k < 256 → eqb (u_kind k) k ≡ true → field 0 2 k ≡ 3 → carries k ≡ false → eqb k frmr ≡ false
      → (i : List ℕ) → i ≡ [] → as_written m (unnumbered k p ∷ i) ≡ true
  u_bare k p h u w a b i z = rw z (as-written_u m (unnumbered k p ∷ []) k w a b (unnumbered_kind k p h u))

  u_info : (k : ℕ) (p : Bool) → k < 256 → eqb (u_kind k) k ≡ true → field 0 2 k ≡ 3 → carries k ≡ true → eqb k frmr ≡ false
      → (i : List ℕ) → as_written m (unnumbered k p ∷ i) ≡ true
  u_info k p h u w a b i = as-written_info m (unnumbered k p ∷ i) k w a b (unnumbered_kind k p h u)

  pub as-written_spelled : (k : FrameContent) (i : List ℕ) → PlainContent m k → (has_info k ≡ false → i ≡ []) → as_written m (spell_content m k i) ≡ true
  as-written_spelled (kind.Information k) i h e =
      rw append_assoc (i_spelled m k.receive_sequence k.poll k.send_sequence (octet_of k.pid ∷ i))
  as-written_spelled (kind.ReceiveReady k) i h e = s_bare k.receive_sequence k.poll_or_final rr (omega arith) refl i (e refl)
  as-written_spelled (kind.ReceiveNotReady k) i h e = s_bare k.receive_sequence k.poll_or_final rnr (omega arith) refl i (e refl)
  as-written_spelled (kind.Reject k) i h e = s_bare k.receive_sequence k.poll_or_final rej (omega arith) refl i (e refl)
  as-written_spelled (kind.SelectiveReject k) i h e = s_bare k.receive_sequence k.poll_or_final srej (omega arith) refl i (e refl)
  as-written_spelled (kind.SetAsynchronousBalancedMode k) i h e = u_bare sabm k.poll (omega arith) refl refl refl refl i (e refl)
  as-written_spelled (kind.SetAsynchronousBalancedModeExtended k) i h e = u_bare sabme k.poll (omega arith) refl refl refl refl i (e refl)
  as-written_spelled (kind.Disconnect k) i h e = u_bare disc k.poll (omega arith) refl refl refl refl i (e refl)
  as-written_spelled (kind.DisconnectedMode k) i h e = u_bare dm k.final_bit (omega arith) refl refl refl refl i (e refl)
  as-written_spelled (kind.UnnumberedAcknowledge k) i h e = u_bare ua k.final_bit (omega arith) refl refl refl refl i (e refl)
  as-written_spelled (kind.FrameReject k) i h e =
      rw (e refl)
      (as-written-frmr m (front m (kind.FrameReject k)) (unnumbered_kind frmr k.final_bit (omega arith) refl)
      ∙ rw (eq-eqb (field 4 4 (flags k.z k.y k.x k.w)) 0 (omega (arith, flags_below k.z k.y k.x k.w)))
      (eq-eqb _ 0 (low_none k.receive_sequence (is_response k.command_response) k.send_sequence)))
  as-written_spelled (kind.UnnumberedInformation k) i h e = u_info ui k.poll_or_final (omega arith) refl refl refl refl (octet_of k.pid ∷ i)
  as-written_spelled (kind.ExchangeIdentification k) i h e = u_info xid k.poll_or_final (omega arith) refl refl refl refl i
  as-written_spelled (kind.Test k) i h e = u_info test k.poll_or_final (omega arith) refl refl refl refl i
  as-written_spelled kind.UnknownContent i h e = absurd h
