-- What reading accepts, a line a kind, with what its tests showed. Laws of accepted content go by these fourteen cases.
use Prim.Native.Nat.{ℕ, ◌+◌, ◌≤◌, ◌<◌}
use mathlib.Core.Path.{◌≡◌, refl, subst}
use mathlib.Core.Bool.{Bool, false}
use mathlib.Core.List.{List}
use Rattle.std.specs.Prelude.{Result, Ok, Err}
use native.Mathlib.Omega.{arith}
use borrow.Author.Tests.{eqb-true, eqb-false, ltb-false}
use lib.Dec.{eqb, ltb}
use lib.ListN.{length, get_or}
use Rattle.octets.specs.Octet.{field}
use Rattle.octets.proofs.Choice.{either}
use Rattle.protocol.specs.Pid.{octet_of}
use Rattle.control.specs.Mode.{is_long, controls}
use Rattle.control.specs.Control.{rr, rnr, rej, srej, sabm, sabme, disc, dm, ua, frmr, ui, xid, test, poll_of, s_kind, u_kind, receive_in, poll_in}
use Rattle.control.specs.Spell.{sent, sequenced}
use Rattle.content.specs.Spell.{front}
use Rattle.control.proofs.Laws.{some_control, sequenced-length, before_info}
use Rattle.parse.specs.Content.{i_fields_of, ui_fields_of, frmr_fields_of, i_of, s_kind_of, s_frame_of, s_of, ui_of, frmr_of, u_of, content_of}
use Rattle.control.specs.declared.Mode.{Mode}
use Rattle.control.specs.declared.Mode.TheVariants.{Short, Long}
use Rattle.content.specs.declared.FrameContent.{FrameContent}
use Rattle.content.specs.declared.FrameContent.TheVariants as kind
use Rattle.parse.specs.declared.ContentError.{ContentError}
use Rattle.parse.specs.declared.ContentError.TheVariants.{ContentZeroLength, MissingPidField, UnrecognisedUFieldType, WrongSizeFrmrInfo, FrameRejectInLongMode, MissingControlOctet}

pub data Reads (m : Mode) (s : List ℕ) : FrameContent → Type 0 where
  i_frame : controls m + 1 ≤ length s → field 0 1 (get_or s 0 0) ≡ 0 → Reads m s (kind.Information (i_fields_of m s))
  rr_frame : controls m ≤ length s → s_kind (get_or s 0 0) ≡ rr
      → Reads m s (kind.ReceiveReady (record { receive_sequence = receive_in m s; poll_or_final = poll_in m s }))
  rnr_frame : controls m ≤ length s → s_kind (get_or s 0 0) ≡ rnr
      → Reads m s (kind.ReceiveNotReady (record { receive_sequence = receive_in m s; poll_or_final = poll_in m s }))
  rej_frame : controls m ≤ length s → s_kind (get_or s 0 0) ≡ rej
      → Reads m s (kind.Reject (record { receive_sequence = receive_in m s; poll_or_final = poll_in m s }))
  srej_frame : controls m ≤ length s → s_kind (get_or s 0 0) ≡ srej
      → Reads m s (kind.SelectiveReject (record { receive_sequence = receive_in m s; poll_or_final = poll_in m s }))
  sabm_frame : 0 < length s → u_kind (get_or s 0 0) ≡ sabm
      → Reads m s (kind.SetAsynchronousBalancedMode (record { poll = poll_of (get_or s 0 0) }))
  sabme_frame : 0 < length s → u_kind (get_or s 0 0) ≡ sabme
      → Reads m s (kind.SetAsynchronousBalancedModeExtended (record { poll = poll_of (get_or s 0 0) }))
  disc_frame : 0 < length s → u_kind (get_or s 0 0) ≡ disc → Reads m s (kind.Disconnect (record { poll = poll_of (get_or s 0 0) }))
  dm_frame : 0 < length s → u_kind (get_or s 0 0) ≡ dm → Reads m s (kind.DisconnectedMode (record { final_bit = poll_of (get_or s 0 0) }))
  ua_frame : 0 < length s → u_kind (get_or s 0 0) ≡ ua
      → Reads m s (kind.UnnumberedAcknowledge (record { final_bit = poll_of (get_or s 0 0) }))
  frmr_frame : is_long m ≡ false → length s ≡ 4 → u_kind (get_or s 0 0) ≡ frmr → Reads m s (kind.FrameReject (frmr_fields_of s))
  ui_frame : 2 ≤ length s → u_kind (get_or s 0 0) ≡ ui → Reads m s (kind.UnnumberedInformation (ui_fields_of s))
  xid_frame : 0 < length s → u_kind (get_or s 0 0) ≡ xid
      → Reads m s (kind.ExchangeIdentification (record { poll_or_final = poll_of (get_or s 0 0) }))
  test_frame : 0 < length s → u_kind (get_or s 0 0) ≡ test → Reads m s (kind.Test (record { poll_or_final = poll_of (get_or s 0 0) }))

-- the case of an answer that accepts, and of the one for nothing
abbrev Case : Mode → List ℕ → Result FrameContent ContentError → Type 0
Case m s (Ok k) = Reads m s k
Case m s (Err ContentZeroLength) = length s ≡ 0
Case m s (Err MissingPidField) = Unit {0}
Case m s (Err UnrecognisedUFieldType) = Unit {0}
Case m s (Err WrongSizeFrmrInfo) = Unit {0}
Case m s (Err FrameRejectInLongMode) = Unit {0}
Case m s (Err MissingControlOctet) = Unit {0}

-- the low two bits leave four S kinds
last_kind : (c : ℕ) → field 0 2 c ≡ 1 → eqb (s_kind c) rr ≡ false → eqb (s_kind c) rnr ≡ false → eqb (s_kind c) rej ≡ false → s_kind c ≡ srej
last_kind c e x y z = omega (arith, e, eqb-false (s_kind c) rr x, eqb-false (s_kind c) rnr y, eqb-false (s_kind c) rej z)

s_kind_case : (m : Mode) (s : List ℕ) → controls m ≤ length s → field 0 2 (get_or s 0 0) ≡ 1 → Reads m s (s_frame_of m s)
unfolding s_kind_of
s_kind_case m s n e =
    let c : ℕ = get_or s 0 0 in
    either (Reads m s) (eqb (s_kind c) rr) (λ x. rr_frame n (eqb-true (s_kind c) rr x))
    (λ x. either (Reads m s) (eqb (s_kind c) rnr) (λ y. rnr_frame n (eqb-true (s_kind c) rnr y))
    (λ y. either (Reads m s) (eqb (s_kind c) rej) (λ z. rej_frame n (eqb-true (s_kind c) rej z))
    (λ z. srej_frame n (last_kind c e x y z))))

i_case : (m : Mode) (s : List ℕ) → field 0 1 (get_or s 0 0) ≡ 0 → Case m s (i_of m s)
unfolding i_of
i_case Short s e = either (Case Short s) (ltb (length s) 2) (λ _. tt) (λ l. i_frame (ltb-false (length s) 2 l) e)
i_case Long s e =
    either (Case Long s) (ltb (length s) 2) (λ _. tt)
    (λ _. either (Case Long s) (ltb (length s) 3) (λ _. tt) (λ l. i_frame (ltb-false (length s) 3 l) e))

s_case : (m : Mode) (s : List ℕ) → 0 < length s → field 0 2 (get_or s 0 0) ≡ 1 → Case m s (s_of m s)
unfolding s_of
s_case Short s h e = s_kind_case Short s h e
s_case Long s h e = either (Case Long s) (ltb (length s) 2) (λ _. tt) (λ l. s_kind_case Long s (ltb-false (length s) 2 l) e)

frmr_case : (m : Mode) (s : List ℕ) → u_kind (get_or s 0 0) ≡ frmr → Case m s (frmr_of m s)
unfolding frmr_of
frmr_case Short s e = either (Case Short s) (eqb (length s) 4) (λ l. frmr_frame refl (eqb-true (length s) 4 l) e) (λ _. tt)
frmr_case Long s e = tt

module _ (m : Mode) (s : List ℕ) where
  abbrev c : ℕ
  c = get_or s 0 0

  ui_case : u_kind c ≡ ui → Case m s (ui_of s)
  unfolding ui_of
  ui_case e = either (Case m s) (ltb (length s) 2) (λ _. tt) (λ l. ui_frame (ltb-false (length s) 2 l) e)

  u_case : 0 < length s → Case m s (u_of m c s)
  unfolding u_of
  u_case some =
      either (Case m s) (eqb (u_kind c) sabm) (λ e. sabm_frame some (eqb-true (u_kind c) sabm e))
      (λ _. either (Case m s) (eqb (u_kind c) sabme) (λ e. sabme_frame some (eqb-true (u_kind c) sabme e))
      (λ _. either (Case m s) (eqb (u_kind c) disc) (λ e. disc_frame some (eqb-true (u_kind c) disc e))
      (λ _. either (Case m s) (eqb (u_kind c) dm) (λ e. dm_frame some (eqb-true (u_kind c) dm e))
      (λ _. either (Case m s) (eqb (u_kind c) ua) (λ e. ua_frame some (eqb-true (u_kind c) ua e))
      (λ _. either (Case m s) (eqb (u_kind c) frmr) (λ e. frmr_case m s (eqb-true (u_kind c) frmr e))
      (λ _. either (Case m s) (eqb (u_kind c) ui) (λ e. ui_case (eqb-true (u_kind c) ui e))
      (λ _. either (Case m s) (eqb (u_kind c) xid) (λ e. xid_frame some (eqb-true (u_kind c) xid e))
      (λ _. either (Case m s) (eqb (u_kind c) test) (λ e. test_frame some (eqb-true (u_kind c) test e)) (λ _. tt)))))))))

  content_case : Case m s (content_of m s)
  unfolding content_of
  content_case =
      either (Case m s) (eqb (length s) 0) (λ z. eqb-true (length s) 0 z)
      (λ z. let some : 0 < length s = omega (arith, eqb-false (length s) 0 z) in
      either (Case m s) (eqb (field 0 1 c) 0) (λ e. i_case m s (eqb-true (field 0 1 c) 0 e))
      (λ _. either (Case m s) (eqb (field 0 2 c) 1) (λ e. s_case m s some (eqb-true (field 0 2 c) 1 e)) (λ _. u_case some)))

  pub accepted : (k : FrameContent) → content_of m s ≡ Ok k → Reads m s k
  accepted k e = subst (Case m s) e content_case

  pub zero-length : content_of m s ≡ Err ContentZeroLength → length s ≡ 0
  zero-length e = subst (Case m s) e content_case

-- what stands before the info is something, and no more than was read
pub sized : (m : Mode) (s : List ℕ) (k : FrameContent) → content_of m s ≡ Ok k → (0 < length (front m k)) × (length (front m k) ≤ length s)
sized m s k e = held (accepted m s k e)
  where
    by_control : (r : ℕ) (on : Bool) (low : ℕ) → controls m ≤ length s
        → (0 < length (sequenced m r on low)) × (length (sequenced m r on low) ≤ length s)
    by_control r on low n = let l = sequenced-length m r on low in (omega (arith, l, some_control m), omega (arith, l, n))

    held : {k : FrameContent} → Reads m s k → (0 < length (front m k)) × (length (front m k) ≤ length s)
    held (i_frame n t) =
        let k = i_fields_of m s in
        let l = before_info m k.receive_sequence k.poll (sent m k.send_sequence) (octet_of k.pid) in
        (omega (arith, l), omega (arith, l, n))
    held (rr_frame n t) = by_control _ _ rr n
    held (rnr_frame n t) = by_control _ _ rnr n
    held (rej_frame n t) = by_control _ _ rej n
    held (srej_frame n t) = by_control _ _ srej n
    held (sabm_frame n t) = (omega arith, n)
    held (sabme_frame n t) = (omega arith, n)
    held (disc_frame n t) = (omega arith, n)
    held (dm_frame n t) = (omega arith, n)
    held (ua_frame n t) = (omega arith, n)
    held (frmr_frame a n t) = (omega arith, omega arith)
    held (ui_frame n t) = (omega arith, n)
    held (xid_frame n t) = (omega arith, n)
    held (test_frame n t) = (omega arith, n)

-- nothing reads as `UnknownContent`
pub never_unknown : (m : Mode) (s : List ℕ) → content_of m s ≡ Ok kind.UnknownContent → ⊥
never_unknown m s e = let h = (sized m s kind.UnknownContent e).0 in omega arith
