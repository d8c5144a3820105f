-- The settled cases: lines, and what comes of each.
use Rattle.std.specs.Prelude.{ℕ, List, [], ◌∷◌, replicate}
use Rattle.kiss_reading.specs.Answer.{Reading, accepted}
use Rattle.kiss_state.specs.declared.Stream.{Stream}
use Rattle.kiss_state.specs.State.{room, outside, opened, in_data, in_escape, dropping, in_type, head_of, stream_of}
use Rattle.demands_stream.specs.Run.{run_of}

-- zeros, with so many dropped
abbrev pub fresh_with : ℕ → Stream
fresh_with d = stream_of (replicate room 0) (head_of 0 0 outside d)

-- a packet on port 3 with 1,024 octets of data, its closing C0 still to come
abbrev pub full : Stream
full = stream_of (replicate room 0x41) (head_of room 3 in_data 0)

-- what comes of a line: the packets, the count and the phase
pub record Outcome : Type 0 where
  pub packets : List Reading
  pub dropped : ℕ
  pub phase : ℕ

abbrev pub outcome : Stream × List ℕ → Outcome
outcome (s, l) = record { packets = (run_of s l).packets; dropped = (run_of s l).stream.head.dropped; phase = (run_of s l).stream.head.phase }

abbrev pub fresh : List ℕ → Stream × List ℕ
fresh l = (fresh_with 0, l)

abbrev pub comes : List Reading → ℕ → ℕ → Outcome
comes g d f = record { packets = g; dropped = d; phase = f }

abbrev pub stream_cases : List ((Stream × List ℕ) × Outcome)
stream_cases =
    -- nothing between two C0 is passed over; a type octet with no data is a packet
    (fresh (0xC0 ∷ 0xC0 ∷ 0xC0 ∷ []), comes [] 0 opened)
    ∷ (fresh (0xC0 ∷ 0x00 ∷ 0xC0 ∷ []), comes (accepted 0 [] ∷ []) 0 opened)
    -- one C0 closes a packet and opens the next
    ∷ (fresh (0xC0 ∷ 0x00 ∷ 0x41 ∷ 0xC0 ∷ 0xB0 ∷ 0x42 ∷ 0xC0 ∷ []), comes (accepted 0 (0x41 ∷ []) ∷ accepted 11 (0x42 ∷ []) ∷ []) 0 opened)
    -- escapes
    ∷ (fresh (0xC0 ∷ 0x00 ∷ 0xDB ∷ 0xDC ∷ 0xDB ∷ 0xDD ∷ 0xC0 ∷ []), comes (accepted 0 (0xC0 ∷ 0xDB ∷ []) ∷ []) 0 opened)
    -- before the first C0, bad escapes among it
    ∷ (fresh (0x00 ∷ 0xDB ∷ 0x41 ∷ 0xDB ∷ []), comes [] 0 outside)
    ∷ (fresh (0x00 ∷ 0xDB ∷ 0xC0 ∷ 0x00 ∷ 0xC0 ∷ []), comes (accepted 0 [] ∷ []) 0 opened)
    -- a bad escape: the octet behind DB shows it, and it is counted once
    ∷ (fresh (0xC0 ∷ 0x00 ∷ 0xDB ∷ []), comes [] 0 in_escape)
    ∷ (fresh (0xC0 ∷ 0x00 ∷ 0xDB ∷ 0x41 ∷ []), comes [] 1 dropping)
    ∷ (fresh (0xC0 ∷ 0x00 ∷ 0xDB ∷ 0x41 ∷ 0x41 ∷ 0xDB ∷ 0x41 ∷ 0xC0 ∷ []), comes [] 1 opened)
    -- DB before C0: that C0 shows it, and the next packet starts there
    ∷ (fresh (0xC0 ∷ 0x00 ∷ 0xDB ∷ 0xC0 ∷ []), comes [] 1 opened)
    ∷ (fresh (0xC0 ∷ 0x00 ∷ 0xDB ∷ 0xC0 ∷ 0x20 ∷ 0x41 ∷ 0xC0 ∷ []), comes (accepted 2 (0x41 ∷ []) ∷ []) 1 opened)
    -- a command, and a port over 11
    ∷ (fresh (0xC0 ∷ 0x01 ∷ []), comes [] 1 dropping) ∷ (fresh (0xC0 ∷ 0xD0 ∷ []), comes [] 1 dropping)
    -- an escaped type octet: it is there once its escape is complete
    ∷ (fresh (0xC0 ∷ 0xDB ∷ []), comes [] 0 in_type)
    ∷ (fresh (0xC0 ∷ 0xDB ∷ 0xDC ∷ []), comes [] 1 dropping) ∷ (fresh (0xC0 ∷ 0xDB ∷ 0xDD ∷ []), comes [] 1 dropping)
    ∷ (fresh (0xC0 ∷ 0xDB ∷ 0x00 ∷ []), comes [] 1 dropping) ∷ (fresh (0xC0 ∷ 0xDB ∷ 0xC0 ∷ []), comes [] 1 opened)
    -- while dropping, DB has no meaning: the C0 behind it opens a packet, which has nothing of the one before
    ∷ (fresh (0xC0 ∷ 0x01 ∷ 0x41 ∷ 0xDB ∷ 0xC0 ∷ 0x00 ∷ 0xC0 ∷ []), comes (accepted 0 [] ∷ []) 1 opened)
    -- 1,024 octets of data are given out; a 1,025th is there once its escape is complete, and DB before C0 is a bad escape there too
    ∷ ((full, 0xC0 ∷ []), comes (accepted 3 (replicate room 0x41) ∷ []) 0 opened)
    ∷ ((full, 0x41 ∷ []), comes [] 1 dropping) ∷ ((full, 0xDB ∷ []), comes [] 0 in_escape)
    ∷ ((full, 0xDB ∷ 0xDC ∷ []), comes [] 1 dropping) ∷ ((full, 0xDB ∷ 0xC0 ∷ []), comes [] 1 opened)
    -- the count stops
    ∷ ((fresh_with 65534, 0xC0 ∷ 0x01 ∷ []), comes [] 65535 dropping) ∷ ((fresh_with 65535, 0xC0 ∷ 0x01 ∷ []), comes [] 65535 dropping)
    ∷ []
