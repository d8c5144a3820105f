-- The code's masks and shifts, as the fields of the definitions: first taken apart, then put together.
use Prim.Native.Nat.{ℕ, ◌+◌, ◌*◌, ◌/◌, ◌%◌, ◌^◌, ◌<◌}
use mathlib.Core.Path.{◌≡◌}
use mathlib.Core.Bool.{Bool, true, false, cond, not}
use native.Mathlib.Omega.{arith}
use lib.Dec.{eqb, eqb→eq}
use lib.Bits.{bit_and, bit_or, and_mask, or_shifted}
use Rattle.octets.specs.Octet.{field}
use Rattle.octets.proofs.Bits.{field_mask, low_mask, bit_test}
use Rattle.octets.proofs.Octet.{octet-same, bits_always}
use Rattle.control.specs.Control.{receive_of, send_of, poll_of, s_kind, u_kind}
use Rattle.control.specs.Spell.{numbered, received, sent, unnumbered, flags}
use Rattle.control.specs.declared.Mode.TheVariants.{Short, Long}

pub receive_mask : (c : ℕ) → bit_and c 0xE0 / 32 ≡ receive_of c
receive_mask c = field_mask c 5 3

pub send_mask : (c : ℕ) → bit_and c 0x0E / 2 ≡ send_of c
send_mask c = field_mask c 1 3

pub poll_mask : (c : ℕ) → not (eqb (bit_and c 0x10) 0) ≡ poll_of c
poll_mask c = bit_test c 4

pub s_mask : (c : ℕ) → bit_and c 0x0F ≡ s_kind c
s_mask c = low_mask c 4

pub u_mask : (c : ℕ) → c < 256 → bit_and c 0xEF ≡ u_kind c
u_mask c h = octet-same (λ n. bit_and n 0xEF) u_kind tt c h

pub seven_shift : (c : ℕ) → c < 256 → field 1 7 c ≡ c / 2
seven_shift c h = omega arith

-- bits 5 to 7, bit 4, and the low four
pub numbered-or : (receive : ℕ) (on : Bool) (low : ℕ)
    → bit_or (bit_or (bit_and receive 7 * 32 % 256) (cond on 16 0)) (bit_and low 15) ≡ numbered receive on (low % 16)
numbered-or receive on low =
    rw (and_mask receive 3, and_mask low 4) (joined on)
  where
    joined : (on : Bool) → bit_or (bit_or (receive % 8 * 32 % 256) (cond on 16 0)) (low % 16) ≡ numbered receive on (low % 16)
    joined true =
        let e : receive % 8 * 32 % 256 ≡ receive % 8 * 2 ^ 5 = omega arith in
        let f : receive % 8 * 2 ^ 5 + 16 ≡ (receive % 8 * 2 + 1) * 2 ^ 4 = omega arith in
        rw (e, or_shifted (receive % 8) 5 16 (omega arith), f, or_shifted (receive % 8 * 2 + 1) 4 (low % 16) (omega arith)) (omega arith)
    joined false =
        let e : receive % 8 * 32 % 256 ≡ receive % 8 * 2 ^ 5 = omega arith in
        let f : receive % 8 * 2 ^ 5 + 0 ≡ (receive % 8 * 2) * 2 ^ 4 = omega arith in
        rw (e, or_shifted (receive % 8) 5 0 (omega arith), f, or_shifted (receive % 8 * 2) 4 (low % 16) (omega arith)) (omega arith)

-- N(R) above the bit 0
pub received-or : (receive : ℕ) (on : Bool) → bit_or (bit_and receive 127 * 2 % 256) (cond on 1 0) ≡ received receive on
received-or receive on = rw (and_mask receive 7) (joined on)
  where
    joined : (on : Bool) → bit_or (receive % 128 * 2 % 256) (cond on 1 0) ≡ received receive on
    joined true =
        let e : receive % 128 * 2 % 256 ≡ receive % 128 * 2 ^ 1 = omega arith in
        rw (e, or_shifted (receive % 128) 1 1 (omega arith)) (omega arith)
    joined false =
        let e : receive % 128 * 2 % 256 ≡ receive % 128 * 2 ^ 1 = omega arith in
        rw (e, or_shifted (receive % 128) 1 0 (omega arith)) (omega arith)

pub sent-short : (send : ℕ) → bit_and send 7 * 2 % 256 ≡ sent Short send
sent-short send = rw (and_mask send 3) (omega arith)

pub sent-long : (send : ℕ) → bit_and send 127 * 2 % 256 ≡ sent Long send
sent-long send = rw (and_mask send 7) (omega arith)

-- N(S) modulo 8 at its place leaves the bits above the low four zero
pub sent-low : (send : ℕ) → sent Short send % 16 ≡ sent Short send
sent-low send = omega arith

pub unnumbered-or : (kind : ℕ) → kind < 256 → (on : Bool) → bit_or (bit_and kind 0xEF) (cond on 16 0) ≡ unnumbered (u_kind kind) on
unnumbered-or kind h true = octet-same (λ n. bit_or (bit_and n 0xEF) 16) (λ n. unnumbered (u_kind n) true) tt kind h
unnumbered-or kind h false = octet-same (λ n. bit_or (bit_and n 0xEF) 0) (λ n. unnumbered (u_kind n) false) tt kind h

pub flags-or : (z y x w : Bool)
    → bit_or (bit_or (bit_or (cond z 8 0) (cond y 4 0)) (cond x 2 0)) (cond w 1 0) ≡ flags z y x w
flags-or z y x w =
    eqb→eq _ _
    (bits_always
    (λ z y x w. eqb (bit_or (bit_or (bit_or (cond z 8 0) (cond y 4 0)) (cond x 2 0)) (cond w 1 0)) (flags z y x w))
    tt z y x w)
