-- A call: it takes its piece through the first octet that gives out a packet, else the whole (document 02, M-104).
use Rattle.std.specs.Prelude.{ℕ, ◌+◌, cond, List, [], ◌∷◌}
use Rattle.kiss_state.specs.declared.Head.{Head}
use Rattle.kiss_state.specs.declared.Stream.{Stream}
use Rattle.kiss_state.specs.State.{settled}
use Rattle.kiss_stream.specs.declared.Packet.{Packet}
use Rattle.kiss_stream.specs.declared.Fed.{Fed}
use Rattle.kiss_octet.specs.Step.{step_of, gives}

-- what a call leaves: the state, the packet given out or none, and how many octets it took
pub record Called : Type 0 where
  pub stream : Stream
  pub packet : Packet
  pub taken : ℕ

abbrev pub no_packet : Packet
no_packet = record { ready = 0; port = 0; length = 0 }

-- the packet that is complete: its data is the first octets of the array
abbrev pub packet_of : Head → Packet
packet_of h = record { ready = 1; port = h.port; length = h.length }

-- the same with so many octets more taken before
abbrev pub later : ℕ → Called → Called
later n c = record { stream = c.stream; packet = c.packet; taken = n + c.taken }

-- octet after octet, through the first that gives out a packet
unfoldable pub taken_from : Stream → List ℕ → Called
taken_from s [] = record { stream = s; packet = no_packet; taken = 0 }
taken_from s (b ∷ l) =
    cond (gives s b) (record { stream = step_of s b; packet = packet_of (step_of s b).head; taken = 1 }) (later 1 (taken_from (step_of s b) l))

-- from any state: one that no call made is read as a fresh one
unfoldable pub feed_of : Stream → List ℕ → Called
feed_of s piece = taken_from (settled s) piece

-- the same as the function gives it, the array being lent by itself
abbrev pub fed_of : Called → Fed
fed_of c = record { head = c.stream.head; packet = c.packet; taken = c.taken }
