-- Octets that writing put together, taken apart again: each field is back, and the tests go the kind's way.
use Prim.Native.Nat.{ℕ, ◌%◌, ◌<◌}
use mathlib.Core.Path.{◌≡◌, refl, ap, ◌∙◌}
use mathlib.Core.Bool.{Bool, true, false, cond, beq}
use mathlib.Core.List.{List, [], ◌∷◌, ◌++◌}
use native.Mathlib.Omega.{arith}
use borrow.Author.Tests.{eq-eqb, ne_eqb, le-ltb}
use lib.Dec.{T, eqb, ltb, ltb→lt}
use lib.ListN.{length}
use Rattle.octets.specs.Octet.{field, bit}
use Rattle.octets.proofs.Octet.{bits_always}
use Rattle.protocol.specs.Pid.{pid_of}
use Rattle.control.specs.Mode.{limit}
use Rattle.control.specs.Control.{sabm, sabme, disc, dm, ua, frmr, ui, xid, test, receive_of, send_of, poll_of, s_kind}
use Rattle.parse.specs.Content.{i_of, s_kind_of, s_of, ui_of, frmr_of, u_of, content_of, response_of}
use Rattle.control.specs.Spell.{numbered, received, sent, sequenced, unnumbered, flags}
use Rattle.content.specs.Spell.{is_response, front, PlainContent}
use Rattle.control.specs.declared.Mode.{Mode}
use Rattle.control.specs.declared.Mode.TheVariants.{Short, Long}
use Rattle.content.specs.declared.CommandResponse.{CommandResponse}
use Rattle.content.specs.declared.CommandResponse.TheVariants.{Command, Response}
use Rattle.content.specs.declared.FrameReject.{FrameReject}
use Rattle.content.specs.declared.FrameContent.TheVariants as kind
use Rattle.std.specs.Prelude.{Ok}

-- the fields of an octet with N(R), a bit and the low four bits
module _ (n m : ℕ) (l : m < 16) where
  pub receive-back : n < 8 → (p : Bool) → receive_of (numbered n p m) ≡ n
  receive-back h true = omega arith
  receive-back h false = omega arith

  pub low-back : (p : Bool) → s_kind (numbered n p m) ≡ m
  low-back true = omega arith
  low-back false = omega arith

  pub poll-back : (p : Bool) → poll_of (numbered n p m) ≡ p
  poll-back true = eq-eqb (field 4 1 (numbered n true m)) 1 (omega arith)
  poll-back false = ne_eqb (field 4 1 (numbered n false m)) 1 (λ e. omega arith)

-- and of the second octet of a long control field
module _ (n : ℕ) (h : n < 128) where
  pub received-back : (p : Bool) → field 1 7 (received n p) ≡ n
  received-back true = omega arith
  received-back false = omega arith

  pub final-back : (p : Bool) → bit 0 (received n p) ≡ p
  final-back true = eq-eqb (field 0 1 (received n true)) 1 (omega arith)
  final-back false = ne_eqb (field 0 1 (received n false)) 1 (λ e. omega arith)

-- a list with an element is not empty, and one with two or three has room for a PID
some : (x : ℕ) (s : List ℕ) → eqb (length (x ∷ s)) 0 ≡ false
some x s = ne_eqb (length (x ∷ s)) 0 (λ e. omega arith)

two : (x y : ℕ) (s : List ℕ) → ltb (length (x ∷ y ∷ s)) 2 ≡ false
two x y s = le-ltb (length (x ∷ y ∷ s)) 2 (omega arith)

three : (x y z : ℕ) (s : List ℕ) → ltb (length (x ∷ y ∷ z ∷ s)) 3 ≡ false
three x y z s = le-ltb (length (x ∷ y ∷ z ∷ s)) 3 (omega arith)

-- the low bits lead to I, S or U
module _ (m : Mode) (c : ℕ) (s : List ℕ) where
  i_way : field 0 1 c ≡ 0 → content_of m (c ∷ s) ≡ i_of m (c ∷ s)
  unfolding content_of
  i_way e = simp (some, eq-eqb (field 0 1 c) 0 e)

  s_way : field 0 2 c ≡ 1 → content_of m (c ∷ s) ≡ s_of m (c ∷ s)
  unfolding content_of
  s_way e = simp (some, ne_eqb (field 0 1 c) 0 (λ z. omega arith), eq-eqb (field 0 2 c) 1 e)

  u_way : field 0 2 c ≡ 3 → content_of m (c ∷ s) ≡ u_of m c (c ∷ s)
  unfolding content_of
  u_way e = simp (some, ne_eqb (field 0 1 c) 0 (λ z. omega arith), ne_eqb (field 0 2 c) 1 (λ z. omega arith))

pub send-back : (n : ℕ) (p : Bool) (v : ℕ) → v < 8 → send_of (numbered n p (sent Short v)) ≡ v
send-back n true v l = omega arith
send-back n false v l = omega arith

pub i-back : (m : Mode) (n : ℕ) → n < limit m → (p : Bool) (v : ℕ) → v < limit m → (c : ℕ) (s : List ℕ)
    → content_of m ((sequenced m n p (sent m v) ++ (c ∷ [])) ++ s)
    ≡ Ok (kind.Information (record { pid = pid_of c; receive_sequence = n; send_sequence = v; poll = p }))
unfolding i_of
i-back Short n h p v l c s =
    let d : sent Short v < 16 = omega arith in
    i_way Short (numbered n p (sent Short v)) (c ∷ s) (omega (arith, low-back n (sent Short v) d p))
    ∙ simp (two, receive-back n (sent Short v) d h p, send-back n p v l, poll-back n (sent Short v) d p)
i-back Long n h p v l c s =
    let own : field 1 7 (sent Long v) ≡ v = omega arith in
    i_way Long (sent Long v) (received n p ∷ c ∷ s) (omega arith)
    ∙ simp (two, three, own, received-back n h p, final-back n h p)

-- what the low four bits tell hangs on nothing else
pub same_kind : (c d : ℕ) → s_kind c ≡ s_kind d → (n : ℕ) (p : Bool) → s_kind_of c n p ≡ s_kind_of d n p
unfolding s_kind_of
same_kind c d e n p = rw e refl

pub s-back : (m : Mode) (n : ℕ) → n < limit m → (p : Bool) (t : ℕ) → t < 16 → t % 4 ≡ 1 → (s : List ℕ)
    → content_of m (sequenced m n p t ++ s) ≡ Ok (s_kind_of t n p)
unfolding s_of
s-back Short n h p t l e s =
    s_way Short (numbered n p t) s (omega (arith, low-back n t l p))
    ∙ rw (receive-back n t l h p, poll-back n t l p) (ap Ok (same_kind (numbered n p t) t (low-back n t l p ∙ omega arith) n p))
s-back Long n h p t l e s =
    s_way Long t (received n p ∷ s) (omega arith) ∙ rw (two t (received n p) s, received-back n h p, final-back n h p) refl

-- the unnumbered kinds, by computing with either bit
module _ (m : Mode) (s : List ℕ) where
  pub sabm-back : (p : Bool) → content_of m (unnumbered sabm p ∷ s) ≡ Ok (kind.SetAsynchronousBalancedMode (record { poll = p }))
  unfolding u_of
  sabm-back true = u_way m _ s refl
  sabm-back false = u_way m _ s refl

  pub sabme-back : (p : Bool) → content_of m (unnumbered sabme p ∷ s) ≡ Ok (kind.SetAsynchronousBalancedModeExtended (record { poll = p }))
  unfolding u_of
  sabme-back true = u_way m _ s refl
  sabme-back false = u_way m _ s refl

  pub disc-back : (p : Bool) → content_of m (unnumbered disc p ∷ s) ≡ Ok (kind.Disconnect (record { poll = p }))
  unfolding u_of
  disc-back true = u_way m _ s refl
  disc-back false = u_way m _ s refl

  pub dm-back : (p : Bool) → content_of m (unnumbered dm p ∷ s) ≡ Ok (kind.DisconnectedMode (record { final_bit = p }))
  unfolding u_of
  dm-back true = u_way m _ s refl
  dm-back false = u_way m _ s refl

  pub ua-back : (p : Bool) → content_of m (unnumbered ua p ∷ s) ≡ Ok (kind.UnnumberedAcknowledge (record { final_bit = p }))
  unfolding u_of
  ua-back true = u_way m _ s refl
  ua-back false = u_way m _ s refl

  pub frmr_way : (p : Bool) → content_of m (unnumbered frmr p ∷ s) ≡ frmr_of m (unnumbered frmr p ∷ s)
  unfolding u_of
  frmr_way true = u_way m _ s refl
  frmr_way false = u_way m _ s refl

  ui_way : (p : Bool) → content_of m (unnumbered ui p ∷ s) ≡ ui_of (unnumbered ui p ∷ s)
  unfolding u_of
  ui_way true = u_way m _ s refl
  ui_way false = u_way m _ s refl

  pub xid-back : (p : Bool) → content_of m (unnumbered xid p ∷ s) ≡ Ok (kind.ExchangeIdentification (record { poll_or_final = p }))
  unfolding u_of
  xid-back true = u_way m _ s refl
  xid-back false = u_way m _ s refl

  pub test_back : (p : Bool) → content_of m (unnumbered test p ∷ s) ≡ Ok (kind.Test (record { poll_or_final = p }))
  unfolding u_of
  test_back true = u_way m _ s refl
  test_back false = u_way m _ s refl

u_poll-back : (p : Bool) → (poll_of (unnumbered ui p) ≡ p) × (poll_of (unnumbered frmr p) ≡ p)
u_poll-back true = (refl, refl)
u_poll-back false = (refl, refl)

pub ui-back : (m : Mode) (p : Bool) (c : ℕ) (s : List ℕ)
    → content_of m (unnumbered ui p ∷ c ∷ s) ≡ Ok (kind.UnnumberedInformation (record { pid = pid_of c; poll_or_final = p }))
unfolding ui_of
ui-back m p c s = ui_way m (c ∷ s) p ∙ simp (two, (u_poll-back p).0)

same : (a b : Bool) → T (beq a b) → a ≡ b
same true true t = refl
same true false t = absurd t
same false true t = absurd t
same false false t = refl

-- FRMR's flags, by one test at each of the sixteen
module _ (z y x w : Bool) where
  pub z-back : bit 3 (flags z y x w) ≡ z
  z-back = same _ _ (bits_always (λ z y x w. beq (bit 3 (flags z y x w)) z) tt z y x w)

  pub y-back : bit 2 (flags z y x w) ≡ y
  y-back = same _ _ (bits_always (λ z y x w. beq (bit 2 (flags z y x w)) y) tt z y x w)

  pub x-back : bit 1 (flags z y x w) ≡ x
  x-back = same _ _ (bits_always (λ z y x w. beq (bit 1 (flags z y x w)) x) tt z y x w)

  pub w-back : bit 0 (flags z y x w) ≡ w
  w-back = same _ _ (bits_always (λ z y x w. beq (bit 0 (flags z y x w)) w) tt z y x w)

pub flags_below : (z y x w : Bool) → flags z y x w < 16
flags_below z y x w = ltb→lt _ 16 (bits_always (λ z y x w. ltb (flags z y x w) 16) tt z y x w)

response-back : (c : CommandResponse) → cond (is_response c) Response Command ≡ c
response-back Command = refl
response-back Response = refl

pub frmr-back : (k : FrameReject) → PlainContent Short (kind.FrameReject k)
    → frmr_of Short (front Short (kind.FrameReject k)) ≡ Ok (kind.FrameReject k)
unfolding frmr_of response_of
frmr-back k h =
    let d : sent Short k.send_sequence < 16 = omega arith in
    let r = is_response k.command_response in
    simp (
      (u_poll-back k.final_bit).1,
      z-back k.z k.y k.x k.w,
      y-back k.z k.y k.x k.w,
      x-back k.z k.y k.x k.w,
      w-back k.z k.y k.x k.w,
      receive-back _ _ d h.0 r,
      send-back k.receive_sequence r k.send_sequence h.1,
      poll-back k.receive_sequence _ d r,
      response-back k.command_response,
    )
