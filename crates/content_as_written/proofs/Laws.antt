-- What upper layers rest on: plain content is read back from what it spells, and what reading accepts is plain and no longer when
-- spelled again.
use Prim.Native.Nat.{ℕ, ◌<◌, ◌≤◌}
use mathlib.Core.Path.{◌≡◌, refl, ◌∙◌}
use mathlib.Core.Bool.{Bool, true, false, true≢false}
use mathlib.Core.List.{List, [], ◌∷◌, ◌++◌}
use native.Mathlib.Omega.{arith}
use lib.ListN.{length, get_or}
use Rattle.octets.specs.Octet.{Octets}
use Rattle.octets.proofs.Octet.{Each, octets_each}
use Rattle.protocol.specs.Pid.{octet_of}
use Rattle.protocol.proofs.Laws.{pid-plain, pid_octet_lem, octet_below}
use Rattle.control.specs.Mode.{limit}
use Rattle.control.specs.Control.{rr, rnr, rej, srej, sabm, sabme, disc, dm, ua, frmr, ui, xid, test, receive_in, send_in}
use Rattle.parse.specs.Content.{s_kind_of, content_of}
use Rattle.control.specs.Spell.{numbered, received, sent, sequenced, unnumbered}
use Rattle.content.specs.Spell.{has_info, is_response, front, spell_content, PlainContent}
use Rattle.content_as_written.specs.AsWritten.{as_written, info_of}
use Rattle.content_as_written.proofs.AsWritten.{info_exact, as-written_exact, as-written_spelled}
use Rattle.content_as_written.proofs.Back.{flags_below, i-back, s-back, sabm-back, sabme-back, disc-back, dm-back, ua-back, frmr_way, frmr-back, ui-back, xid-back, test_back}
use Rattle.parse.proofs.Read.{Reads, accepted, sized}
use Rattle.parse.proofs.Read.Reads.{i_frame, rr_frame, rnr_frame, rej_frame, srej_frame, sabm_frame, sabme_frame, disc_frame, dm_frame, ua_frame, frmr_frame, ui_frame, xid_frame, test_frame}
use Rattle.control.specs.declared.Mode.{Mode}
use Rattle.control.specs.declared.Mode.TheVariants.{Short, Long}
use Rattle.content.specs.declared.FrameContent.{FrameContent}
use Rattle.content.specs.declared.FrameContent.TheVariants as kind
use Rattle.std.specs.Prelude.{Ok}

-- plain content that is spelled, with info where it has any, and read back is itself
pub content-back : (m : Mode) (k : FrameContent) (i : List ℕ) → PlainContent m k → (has_info k ≡ false → i ≡ [])
    → content_of m (front m k ++ i) ≡ Ok k
unfolding s_kind_of
content-back m (kind.Information k) i h e =
    i-back m k.receive_sequence h.0 k.poll k.send_sequence h.1 (octet_of k.pid) i ∙ rw (pid_octet_lem k.pid h.2) refl
content-back m (kind.ReceiveReady k) i h e = s-back m k.receive_sequence h k.poll_or_final rr (omega arith) refl i
content-back m (kind.ReceiveNotReady k) i h e = s-back m k.receive_sequence h k.poll_or_final rnr (omega arith) refl i
content-back m (kind.Reject k) i h e = s-back m k.receive_sequence h k.poll_or_final rej (omega arith) refl i
content-back m (kind.SelectiveReject k) i h e = s-back m k.receive_sequence h k.poll_or_final srej (omega arith) refl i
content-back m (kind.SetAsynchronousBalancedMode k) i h e = sabm-back m i k.poll
content-back m (kind.SetAsynchronousBalancedModeExtended k) i h e = sabme-back m i k.poll
content-back m (kind.Disconnect k) i h e = disc-back m i k.poll
content-back m (kind.DisconnectedMode k) i h e = dm-back m i k.final_bit
content-back m (kind.UnnumberedAcknowledge k) i h e = ua-back m i k.final_bit
content-back Short (kind.FrameReject k) i h e = rw (e refl) (frmr_way Short _ k.final_bit ∙ frmr-back k h)
content-back Long (kind.FrameReject k) i h e = absurd h
content-back m (kind.UnnumberedInformation k) i h e =
    ui-back m k.poll_or_final (octet_of k.pid) i ∙ rw (pid_octet_lem k.pid h) refl
content-back m (kind.ExchangeIdentification k) i h e = xid-back m i k.poll_or_final
content-back m (kind.Test k) i h e = test_back m i k.poll_or_final
content-back m kind.UnknownContent i h e = absurd h

receive_below : (m : Mode) (s : List ℕ) → receive_in m s < limit m
receive_below Short s = omega arith
receive_below Long s = omega arith

send_below : (m : Mode) (s : List ℕ) → send_in m s < limit m
send_below Short s = omega arith
send_below Long s = omega arith

-- what is read of octets is plain
pub content-plain : (m : Mode) (s : List ℕ) → Octets s → (k : FrameContent) → content_of m s ≡ Ok k → PlainContent m k
content-plain m s o k e = plain m (accepted m s k e)
  where
    plain : (m : Mode) {k : FrameContent} → Reads m s k → PlainContent m k
    plain m (i_frame n t) = (receive_below m s, send_below m s, pid-plain _ (o _))
    plain m (rr_frame n t) = receive_below m s
    plain m (rnr_frame n t) = receive_below m s
    plain m (rej_frame n t) = receive_below m s
    plain m (srej_frame n t) = receive_below m s
    plain m (sabm_frame n t) = tt
    plain m (sabme_frame n t) = tt
    plain m (disc_frame n t) = tt
    plain m (dm_frame n t) = tt
    plain m (ua_frame n t) = tt
    plain Short (frmr_frame a n t) = (omega arith, omega arith, o 3)
    plain Long (frmr_frame a n t) = true≢false a
    plain m (ui_frame n t) = pid-plain (get_or s 1 0) (o 1)
    plain m (xid_frame n t) = tt
    plain m (test_frame n t) = tt

pub content_fits : (m : Mode) (s : List ℕ) (k : FrameContent) → content_of m s ≡ Ok k → length (front m k) ≤ length s
content_fits m s k e = (sized m s k e).1

pub content_some : (m : Mode) (s : List ℕ) (k : FrameContent) → content_of m s ≡ Ok k → 0 < length s
content_some m s k e = let h = sized m s k e in omega arith

-- plain content spells something
pub front_some : (m : Mode) (k : FrameContent) → PlainContent m k → 0 < length (front m k)
front_some m k h = (sized m (front m k ++ []) k (content-back m k [] h (λ _. refl))).0

numbered_below : (n : ℕ) (p : Bool) (k : ℕ) → k < 16 → numbered n p k < 256
numbered_below n true k h = omega arith
numbered_below n false k h = omega arith

received_below : (n : ℕ) (p : Bool) → received n p < 256
received_below n true = omega arith
received_below n false = omega arith

unnumbered_below : (k : ℕ) (p : Bool) → k < 240 → unnumbered k p < 256
unnumbered_below k true h = omega arith
unnumbered_below k false h = omega arith

i_below : (m : Mode) (n : ℕ) (p : Bool) (v c : ℕ) → c < 256 → Each (sequenced m n p (sent m v) ++ (c ∷ []))
i_below Short n p v c h = (numbered_below n p (sent Short v) (omega arith), (h, tt))
i_below Long n p v c h = (omega arith, (received_below n p, (h, tt)))

s_below : (m : Mode) (n : ℕ) (p : Bool) (k : ℕ) → k < 16 → Each (sequenced m n p k)
s_below Short n p k h = (numbered_below n p k h, tt)
s_below Long n p k h = (omega arith, (received_below n p, tt))

-- plain content spells octets
pub front-octets : (m : Mode) (k : FrameContent) → PlainContent m k → Octets (front m k)
front-octets m k h = octets_each (front m k) (each m k h)
  where
    each : (m : Mode) (k : FrameContent) → PlainContent m k → Each (front m k)
    each m (kind.Information k) h = i_below m k.receive_sequence k.poll k.send_sequence _ (octet_below k.pid h.2)
    each m (kind.ReceiveReady k) h = s_below m k.receive_sequence k.poll_or_final rr (omega arith)
    each m (kind.ReceiveNotReady k) h = s_below m k.receive_sequence k.poll_or_final rnr (omega arith)
    each m (kind.Reject k) h = s_below m k.receive_sequence k.poll_or_final rej (omega arith)
    each m (kind.SelectiveReject k) h = s_below m k.receive_sequence k.poll_or_final srej (omega arith)
    each m (kind.SetAsynchronousBalancedMode k) h = (unnumbered_below sabm k.poll (omega arith), tt)
    each m (kind.SetAsynchronousBalancedModeExtended k) h = (unnumbered_below sabme k.poll (omega arith), tt)
    each m (kind.Disconnect k) h = (unnumbered_below disc k.poll (omega arith), tt)
    each m (kind.DisconnectedMode k) h = (unnumbered_below dm k.final_bit (omega arith), tt)
    each m (kind.UnnumberedAcknowledge k) h = (unnumbered_below ua k.final_bit (omega arith), tt)
    each Short (kind.FrameReject k) h = (
      unnumbered_below frmr k.final_bit (omega arith),
      (
        omega (arith, flags_below k.z k.y k.x k.w),
        (
          numbered_below k.receive_sequence (is_response k.command_response) (sent Short k.send_sequence) (omega arith),
          (h.2, tt),
        ),
      ),
    )
    each Long (kind.FrameReject k) h = absurd h
    each m (kind.UnnumberedInformation k) h = (unnumbered_below ui k.poll_or_final (omega arith), (octet_below k.pid h, tt))
    each m (kind.ExchangeIdentification k) h = (unnumbered_below xid k.poll_or_final (omega arith), tt)
    each m (kind.Test k) h = (unnumbered_below test k.poll_or_final (omega arith), tt)
    each m kind.UnknownContent h = absurd h

module _ (m : Mode) (s : List ℕ) (o : Octets s) (k : FrameContent) (e : content_of m s ≡ Ok k) where
  -- of content with info every octet is written as it was read, the PID's too
  pub content_kept : has_info k ≡ true → spell_content m k (info_of m k s) ≡ s
  content_kept i = info_exact m s o (accepted m s k e) i

  -- content that is accepted is just as writing gives it exactly when the direct test passes
  pub content_exact : as_written m s ≡ true → spell_content m k (info_of m k s) ≡ s
  content_exact t = as-written_exact m s o t (accepted m s k e)

  pub content-as-written : spell_content m k (info_of m k s) ≡ s → as_written m s ≡ true
  content-as-written w = rw w at (as-written_spelled m k (info_of m k s) (content-plain m s o k e) (λ h. rw h refl))
