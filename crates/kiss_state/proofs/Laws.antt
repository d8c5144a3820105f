-- The states that calls make.
use Prim.Native.Nat.{◌≤◌}
use mathlib.Core.Path.{◌≡◌}
use native.Mathlib.Omega.{arith}
use borrow.Author.Tests.{ltb-false, le-ltb}
use lib.Dec.{ltb}
use Rattle.octets.proofs.Choice.{either}
use Rattle.kiss.specs.Packet.{last_port}
use Rattle.kiss_state.specs.declared.Head.{Head}
use Rattle.kiss_state.specs.State.{room, in_type, none_in, settled_head}

-- the data fits, and port and phase are those that there are
pub record Sound (h : Head) : Type 0 where
  pub length_in : h.length ≤ room
  pub port_in : h.port ≤ last_port
  pub phase_in : h.phase ≤ in_type

-- any state is read as one of them, and each of them as it is
pub settled_sound : (h : Head) → Sound (settled_head h)
unfolding settled_head
settled_sound h =
    let fresh : Sound (none_in h 0) = record { length_in = omega arith; port_in = omega arith; phase_in = omega arith } in
    either Sound (ltb room h.length) (λ _. fresh) (λ e. either Sound (ltb last_port h.port) (λ _. fresh) (λ f.
    either Sound (ltb in_type h.phase) (λ _. fresh) (λ g.
    record { length_in = ltb-false _ _ e; port_in = ltb-false _ _ f; phase_in = ltb-false _ _ g })))

pub sound-settled : (h : Head) → Sound h → settled_head h ≡ h
unfolding settled_head
sound-settled h k = simp (le-ltb room h.length k.length_in, le-ltb last_port h.port k.port_in, le-ltb in_type h.phase k.phase_in)
