-- Of the octets before info, writing gives back every bit that is not unseen, and reading looks at no bit that is.
use Prim.Native.Nat.{ℕ, zero, suc, ◌+◌, ◌*◌, ◌/◌, ◌≤◌, ◌<◌}
use mathlib.Core.Path.{◌≡◌, refl, ap, sym, ◌∙◌}
use mathlib.Core.Bool.{true, false, false≢true, true≢false}
use mathlib.Core.List.{List, [], ◌∷◌, ◌++◌, append-nil}
use native.Mathlib.Omega.{arith}
use borrow.Author.Tests.{eq-eqb, ne_eqb, le-ltb, lt-leb, leb-false, ltb-true, ltb-false, eqb-false}
use lib.Dec.{ltb}
use lib.ListN.{length, get_or, get_or-append, get_or-eq_default}
use Rattle.octets.specs.Octet.{Octets, field, bit, flag}
use Rattle.octets.proofs.Choice.{by, neither}
use Rattle.octets.proofs.Octet.{octet-same, upper_bits, all_bits, octets-same}
use Rattle.control.specs.Mode.{is_long, controls}
use Rattle.control.specs.Control.{rr, rnr, rej, srej, frmr, poll_of, s_kind, u_kind, receive_in, poll_in}
use Rattle.control.specs.Spell.{flags, sequenced, unnumbered}
use Rattle.content.specs.Spell.{has_info, front, spell_content}
use Rattle.control.specs.declared.Mode.{Mode}
use Rattle.control.specs.declared.Mode.TheVariants.{Short, Long}
use Rattle.content.specs.declared.FrameContent.{FrameContent}
use Rattle.content.specs.declared.FrameContent.TheVariants as kind
use Rattle.parse.specs.Content.{frmr_fields_of, response_of, frmr_of, s_kind_of, s_of, u_of, content_of}
use Rattle.std.specs.Prelude.{Ok}
use Rattle.parse.proofs.Read.{Reads, accepted}
use Rattle.parse.proofs.Read.Reads.{i_frame, rr_frame, rnr_frame, rej_frame, srej_frame, sabm_frame, sabme_frame, disc_frame, dm_frame, ua_frame, frmr_frame, ui_frame, xid_frame, test_frame}
use Rattle.content_as_written.specs.AsWritten.{info_of}
use Rattle.content_as_written.specs.Unseen.{unseen_s, unseen, has_unseen}
use Rattle.content_as_written.proofs.Back.{same_kind, z-back, y-back, x-back, w-back}
use Rattle.content_as_written.proofs.AsWritten.{numbered-again, received-again, unnumbered-again, copy_even, info_exact}
use Rattle.content_as_written.proofs.Laws.{content_kept}

-- an element of the first
one_kept : (s : List ℕ) (a : ℕ) → a ≡ get_or s 0 0 → (i : ℕ) → i < 1 → get_or (a ∷ []) i 0 ≡ get_or s i 0
one_kept s a e zero h = e
one_kept s a e (suc i) h = absurd (omega arith)

-- an octet without its low bit has the other bits
even_bits : (b j : ℕ) → 1 ≤ j → j < 8 → bit j (b / 2 * 2) ≡ bit j b
even_bits b zero h l = absurd (omega arith)
even_bits b (suc zero) h l = let e : field 1 1 (b / 2 * 2) ≡ field 1 1 b = omega arith in rw e refl
even_bits b (suc (suc zero)) h l = let e : field 2 1 (b / 2 * 2) ≡ field 2 1 b = omega arith in rw e refl
even_bits b (suc (suc (suc zero))) h l = let e : field 3 1 (b / 2 * 2) ≡ field 3 1 b = omega arith in rw e refl
even_bits b (suc (suc (suc (suc zero)))) h l = let e : field 4 1 (b / 2 * 2) ≡ field 4 1 b = omega arith in rw e refl
even_bits b (suc (suc (suc (suc (suc zero))))) h l = let e : field 5 1 (b / 2 * 2) ≡ field 5 1 b = omega arith in rw e refl
even_bits b (suc (suc (suc (suc (suc (suc zero)))))) h l = let e : field 6 1 (b / 2 * 2) ≡ field 6 1 b = omega arith in rw e refl
even_bits b (suc (suc (suc (suc (suc (suc (suc zero))))))) h l = let e : field 7 1 (b / 2 * 2) ≡ field 7 1 b = omega arith in rw e refl
even_bits b (suc (suc (suc (suc (suc (suc (suc (suc j)))))))) h l = absurd (omega arith)

-- the low four bits of an octet, by its bits, and its bits by them
abbrev lower : ℕ → ℕ
lower b = flag 3 (bit 3 b) + flag 2 (bit 2 b) + flag 1 (bit 1 b) + flag 0 (bit 0 b)

low_same : (a b : ℕ) → a < 256 → b < 256 → ((j : ℕ) → j < 4 → bit j a ≡ bit j b) → s_kind a ≡ s_kind b
low_same a b h l f =
    octet-same s_kind lower tt a h
    ∙ rw (f 3 (omega arith), f 2 (omega arith), f 1 (omega arith), f 0 (omega arith)) (sym (octet-same s_kind lower tt b l))

low_bits : (b j : ℕ) → j < 4 → bit j (s_kind b) ≡ bit j b
low_bits b zero h = let e : field 0 1 (s_kind b) ≡ field 0 1 b = omega arith in rw e refl
low_bits b (suc zero) h = let e : field 1 1 (s_kind b) ≡ field 1 1 b = omega arith in rw e refl
low_bits b (suc (suc zero)) h = let e : field 2 1 (s_kind b) ≡ field 2 1 b = omega arith in rw e refl
low_bits b (suc (suc (suc zero))) h = let e : field 3 1 (s_kind b) ≡ field 3 1 b = omega arith in rw e refl
low_bits b (suc (suc (suc (suc j)))) h = absurd (omega arith)

-- an S control field, written again
s_kept : (m : Mode) (s : List ℕ) → Octets s → (k : ℕ) → s_kind (get_or s 0 0) ≡ k → (i j : ℕ)
    → i < length (sequenced m (receive_in m s) (poll_in m s) k) → j < 8 → unseen_s m i j ≡ false
    → bit j (get_or (sequenced m (receive_in m s) (poll_in m s) k) i 0) ≡ bit j (get_or s i 0)
s_kept Short s o k e i j l h u = ap (bit j) (one_kept s _ (rw e at (numbered-again (get_or s 0 0) (o 0))) i l)
s_kept Long s o k e zero j l h u = rw (← e) (low_bits (get_or s 0 0) j (omega (arith, leb-false _ j u)))
s_kept Long s o k e (suc zero) j l h u = ap (bit j) (received-again (get_or s 1 0) (o 1))
s_kept Long s o k e (suc (suc i)) j l h u = absurd (omega arith)

module _ (m : Mode) (s : List ℕ) (o : Octets s) where
  abbrev b : ℕ
  b = get_or s 1 0

  -- FRMR's flags have the bits that they were read from
  flag_bits : (j : ℕ) → j < 4 → bit j (flags (bit 3 b) (bit 2 b) (bit 1 b) (bit 0 b)) ≡ bit j b
  flag_bits zero h = w-back (bit 3 b) (bit 2 b) (bit 1 b) (bit 0 b)
  flag_bits (suc zero) h = x-back (bit 3 b) (bit 2 b) (bit 1 b) (bit 0 b)
  flag_bits (suc (suc zero)) h = y-back (bit 3 b) (bit 2 b) (bit 1 b) (bit 0 b)
  flag_bits (suc (suc (suc zero))) h = z-back (bit 3 b) (bit 2 b) (bit 1 b) (bit 0 b)
  flag_bits (suc (suc (suc (suc j)))) h = absurd (omega arith)

  -- of a kind with info every octet is written as it was read
  info_kept : {k : FrameContent} → Reads m s k → has_info k ≡ true → (i j : ℕ) → i < length (front m k)
      → bit j (get_or (front m k) i 0) ≡ bit j (get_or s i 0)
  info_kept {k} r e i j l =
      ap (bit j) (sym (get_or-append (front m k) (info_of m k s) 0 i l) ∙ ap (λ (y : List ℕ). get_or y i 0) (info_exact m s o r e))

  u_kept : (k : ℕ) → u_kind (get_or s 0 0) ≡ k → (i j : ℕ) → i < 1 → bit j (get_or (unnumbered k (poll_of (get_or s 0 0)) ∷ []) i 0) ≡ bit j (get_or s i 0)
  u_kept k t i j l = ap (bit j) (one_kept s _ (rw t at (unnumbered-again (get_or s 0 0) (o 0))) i l)

  kept : {k : FrameContent} → Reads m s k → (i j : ℕ) → i < length (front m k) → j < 8 → unseen m k i j ≡ false
      → bit j (get_or (front m k) i 0) ≡ bit j (get_or s i 0)
  unfolding unseen
  kept (i_frame n t) i j l h u = info_kept (i_frame n t) refl i j l
  kept (rr_frame n t) i j l h u = s_kept m s o rr t i j l h u
  kept (rnr_frame n t) i j l h u = s_kept m s o rnr t i j l h u
  kept (rej_frame n t) i j l h u = s_kept m s o rej t i j l h u
  kept (srej_frame n t) i j l h u = s_kept m s o srej t i j l h u
  kept (sabm_frame n t) i j l h u = u_kept _ t i j l
  kept (sabme_frame n t) i j l h u = u_kept _ t i j l
  kept (disc_frame n t) i j l h u = u_kept _ t i j l
  kept (dm_frame n t) i j l h u = u_kept _ t i j l
  kept (ua_frame n t) i j l h u = u_kept _ t i j l
  kept (frmr_frame a n t) zero j l h u = ap (bit j) (rw t at (unnumbered-again (get_or s 0 0) (o 0)))
  kept (frmr_frame a n t) (suc zero) j l h u = flag_bits j (omega (arith, leb-false _ j (neither _ _ u).0))
  kept (frmr_frame a n t) (suc (suc zero)) j l h u =
      ap (bit j) (copy_even (get_or s 2 0) (o 2)) ∙ even_bits (get_or s 2 0) j (omega (arith, eqb-false j _ u)) h
  kept (frmr_frame a n t) (suc (suc (suc zero))) j l h u = refl
  kept (frmr_frame a n t) (suc (suc (suc (suc i)))) j l h u = absurd (omega arith)
  kept (ui_frame n t) i j l h u = info_kept (ui_frame n t) refl i j l
  kept (xid_frame n t) i j l h u = info_kept (xid_frame n t) refl i j l
  kept (test_frame n t) i j l h u = info_kept (test_frame n t) refl i j l

-- FRMR by its length and control octet, and S of the long mode by its first
frmr_read : (s : List ℕ) → length s ≡ 4 → u_kind (get_or s 0 0) ≡ frmr → content_of Short s ≡ Ok (kind.FrameReject (frmr_fields_of s))
unfolding content_of u_of frmr_of
frmr_read s n t =
    let c : ℕ = get_or s 0 0 in
    simp (n, ne_eqb (field 0 1 c) 0 (λ z. omega arith), ne_eqb (field 0 2 c) 1 (λ z. omega arith), t)

long_s_read : (s : List ℕ) → 2 ≤ length s → field 0 2 (get_or s 0 0) ≡ 1
    → content_of Long s ≡ Ok (s_kind_of (get_or s 0 0) (receive_in Long s) (poll_in Long s))
unfolding content_of s_of
long_s_read s n t =
    let c : ℕ = get_or s 0 0 in
    simp (
      ne_eqb (length s) 0 (λ z. omega (arith, z, n)),
      ne_eqb (field 0 1 c) 0 (λ z. omega arith),
      eq-eqb (field 0 2 c) 1 t,
      le-ltb (length s) 2 n,
    )

-- the fields of FRMR's second info octet hang on all bits but the low one
even_fields : (b : ℕ) → (field 5 3 (b / 2 * 2) ≡ field 5 3 b) × (field 4 1 (b / 2 * 2) ≡ field 4 1 b) × (field 1 3 (b / 2 * 2) ≡ field 1 3 b)
even_fields b = (omega arith, omega arith, omega arith)

upper_fields : (a b : ℕ) → a / 2 * 2 ≡ b / 2 * 2 → (field 5 3 a ≡ field 5 3 b) × (field 4 1 a ≡ field 4 1 b) × (field 1 3 a ≡ field 1 3 b)
upper_fields a b e =
    let x = even_fields a in
    let y = even_fields b in
    (sym x.0 ∙ ap (field 5 3) e ∙ y.0, sym x.1 ∙ ap (field 4 1) e ∙ y.1, sym x.2 ∙ ap (field 1 3) e ∙ y.2)

-- octets of the same length with the same bits save for unseen ones are read as the same
module _ (s t : List ℕ) (o : Octets s) (p : Octets t) (n : length t ≡ length s) where
  abbrev Same : Mode → FrameContent → Type 0
  Same m k = (i j : ℕ) → j < 8 → unseen m k i j ≡ false → bit j (get_or t i 0) ≡ bit j (get_or s i 0)

  control-same : Same Short (kind.FrameReject (frmr_fields_of s)) → get_or t 0 0 ≡ get_or s 0 0
  unfolding unseen
  control-same f = all_bits _ _ (p 0) (o 0) (λ j h. f 0 j h refl)

  frmr_fields : Same Short (kind.FrameReject (frmr_fields_of s)) → frmr_fields_of t ≡ frmr_fields_of s
  unfolding unseen response_of
  frmr_fields f =
      let rejected : get_or t 3 0 ≡ get_or s 3 0 = all_bits _ _ (p 3) (o 3) (λ j h. f 3 j h refl) in
      let copy = upper_bits (get_or t 2 0) (get_or s 2 0) (p 2) (o 2) (λ j l h. f 2 j h (ne_eqb j _ (λ e. omega (arith, e)))) in
      let fields = upper_fields (get_or t 2 0) (get_or s 2 0) copy in
      rw (
        control-same f,
        rejected,
        f 1 3 (omega arith) refl,
        f 1 2 (omega arith) refl,
        f 1 1 (omega arith) refl,
        f 1 0 (omega arith) refl,
        fields.0,
        fields.1,
        fields.2,
      )
      refl

  -- where no bit is unseen they are the same octets
  plainly : (m : Mode) {k : FrameContent} → ((i j : ℕ) → unseen m k i j ≡ false) → content_of m s ≡ Ok k → Same m k → content_of m t ≡ Ok k
  plainly m u e f = ap (content_of m) (octets-same t s p o n (λ i j h. f i j h (u i j))) ∙ e

  -- of an S control the low four bits of the first octet, and in the long mode all of the second
  s-same : (m : Mode) {k : FrameContent} → ((i j : ℕ) → unseen m k i j ≡ unseen_s m i j) → controls m ≤ length s → field 0 2 (get_or s 0 0) ≡ 1
      → content_of m s ≡ Ok k → Same m k → content_of m t ≡ Ok k
  s-same Short u l w e f = plainly Short u e f
  s-same Long {k} u l w e f =
      let first : s_kind (get_or t 0 0) ≡ s_kind (get_or s 0 0) =
      low_same _ _ (p 0) (o 0) (λ j h. f 0 j (omega arith) (u 0 j ∙ lt-leb 4 j h)) in
      let second : get_or t 1 0 ≡ get_or s 1 0 = all_bits _ _ (p 1) (o 1) (λ j h. f 1 j h (u 1 j)) in
      long_s_read t (rw n l) (omega (arith, first, w))
      ∙ rw (same_kind _ _ first (receive_in Long t) (poll_in Long t), second) (sym (long_s_read s l w) ∙ e)

  same_read : (m : Mode) {k : FrameContent} → Reads m s k → content_of m s ≡ Ok k → Same m k → content_of m t ≡ Ok k
  unfolding unseen
  same_read m (i_frame l c) e f = plainly m (λ i j. refl) e f
  same_read m (rr_frame l c) e f = s-same m (λ i j. refl) l (omega (arith, c)) e f
  same_read m (rnr_frame l c) e f = s-same m (λ i j. refl) l (omega (arith, c)) e f
  same_read m (rej_frame l c) e f = s-same m (λ i j. refl) l (omega (arith, c)) e f
  same_read m (srej_frame l c) e f = s-same m (λ i j. refl) l (omega (arith, c)) e f
  same_read m (sabm_frame l c) e f = plainly m (λ i j. refl) e f
  same_read m (sabme_frame l c) e f = plainly m (λ i j. refl) e f
  same_read m (disc_frame l c) e f = plainly m (λ i j. refl) e f
  same_read m (dm_frame l c) e f = plainly m (λ i j. refl) e f
  same_read m (ua_frame l c) e f = plainly m (λ i j. refl) e f
  same_read Short (frmr_frame a l c) e f = frmr_read t (n ∙ l) (ap u_kind (control-same f) ∙ c) ∙ rw (frmr_fields f) refl
  same_read Long (frmr_frame a l c) e f = absurd (true≢false a)
  same_read m (ui_frame l c) e f = plainly m (λ i j. refl) e f
  same_read m (xid_frame l c) e f = plainly m (λ i j. refl) e f
  same_read m (test_frame l c) e f = plainly m (λ i j. refl) e f

  pub unseen_read : (m : Mode) (k : FrameContent) → content_of m s ≡ Ok k → Same m k → content_of m t ≡ Ok k
  unseen_read m k e f = same_read m (accepted m s k e) e f

none_s : (m : Mode) → is_long m ≡ false → (i j : ℕ) → unseen_s m i j ≡ false
none_s Short h i j = refl
none_s Long h i j = absurd (true≢false h)

-- no other kind has unseen bits
pub none-unseen : (m : Mode) (k : FrameContent) → has_unseen m k ≡ false → (i j : ℕ) → unseen m k i j ≡ false
unfolding unseen
none-unseen m (kind.Information k) h i j = refl
none-unseen m (kind.ReceiveReady k) h i j = none_s m h i j
none-unseen m (kind.ReceiveNotReady k) h i j = none_s m h i j
none-unseen m (kind.Reject k) h i j = none_s m h i j
none-unseen m (kind.SelectiveReject k) h i j = none_s m h i j
none-unseen m (kind.SetAsynchronousBalancedMode k) h i j = refl
none-unseen m (kind.SetAsynchronousBalancedModeExtended k) h i j = refl
none-unseen m (kind.Disconnect k) h i j = refl
none-unseen m (kind.DisconnectedMode k) h i j = refl
none-unseen m (kind.UnnumberedAcknowledge k) h i j = refl
none-unseen m (kind.FrameReject k) h i j = absurd (true≢false h)
none-unseen m (kind.UnnumberedInformation k) h i j = refl
none-unseen m (kind.ExchangeIdentification k) h i j = refl
none-unseen m (kind.Test k) h i j = refl
none-unseen m kind.UnknownContent h i j = refl

-- those have no info
pub info-seen : (m : Mode) (k : FrameContent) → has_info k ≡ true → (i j : ℕ) → unseen m k i j ≡ false
info-seen m k e = none-unseen m k (bare-unseen k e)
  where
    bare-unseen : (k : FrameContent) → has_info k ≡ true → has_unseen m k ≡ false
    bare-unseen (kind.Information k) e = refl
    bare-unseen (kind.ReceiveReady k) e = absurd (false≢true e)
    bare-unseen (kind.ReceiveNotReady k) e = absurd (false≢true e)
    bare-unseen (kind.Reject k) e = absurd (false≢true e)
    bare-unseen (kind.SelectiveReject k) e = absurd (false≢true e)
    bare-unseen (kind.SetAsynchronousBalancedMode k) e = absurd (false≢true e)
    bare-unseen (kind.SetAsynchronousBalancedModeExtended k) e = absurd (false≢true e)
    bare-unseen (kind.Disconnect k) e = absurd (false≢true e)
    bare-unseen (kind.DisconnectedMode k) e = absurd (false≢true e)
    bare-unseen (kind.UnnumberedAcknowledge k) e = absurd (false≢true e)
    bare-unseen (kind.FrameReject k) e = absurd (false≢true e)
    bare-unseen (kind.UnnumberedInformation k) e = refl
    bare-unseen (kind.ExchangeIdentification k) e = refl
    bare-unseen (kind.Test k) e = refl
    bare-unseen kind.UnknownContent e = refl

-- content that is as long as what its reading spells has the bits of that, save for unseen ones
pub content_bits : (m : Mode) (s : List ℕ) → Octets s → (k : FrameContent) → content_of m s ≡ Ok k
    → length (spell_content m k (info_of m k s)) ≡ length s
    → (i j : ℕ) → j < 8 → unseen m k i j ≡ false → bit j (get_or (spell_content m k (info_of m k s)) i 0) ≡ bit j (get_or s i 0)
content_bits m s o k e l i j h u =
    by (has_info k)
    (λ x. rw (content_kept m s o k e x) refl)
    (λ x. let all : front m k ++ info_of m k s ≡ front m k = rw x (append-nil (front m k)) in
    let long : length (front m k) ≡ length s = sym (ap (λ (y : List ℕ). length y) all) ∙ l in
    rw all
    (by (ltb i (length (front m k)))
    (λ y. kept m s o (accepted m s k e) i j (ltb-true i (length (front m k)) y) h u)
    (λ y. let past : length (front m k) ≤ i = ltb-false i (length (front m k)) y in
    rw (get_or-eq_default (front m k) 0 past, get_or-eq_default s 0 (rw long at past)) refl)))
