-- Document 02, M-111: how each record of a call ends, and settled cases.
use Rattle.std.specs.Prelude.{ℕ, ◌+◌, ◌≤◌, ◌<◌, ◌≡◌, cond, List, [], ◌∷◌, ◌++◌, length, get_or}
use Rattle.control.specs.declared.Mode.{Mode}
use Rattle.frame.specs.Frame.{default_frame}
use Rattle.decode.specs.Answer.{number_of}
use Rattle.decode.specs.Read.{decode}
use Rattle.spelling.specs.Canonical.{canonical}
use Rattle.captures.specs.Capture.{kind_of, part_of}
use Rattle.captures.specs.declared.CaptureRecord.{CaptureRecord}
use Rattle.octets.specs.Table.{FirstRow}
use Rattle.demands.specs.Numbers.{decode_table}
use Rattle.demands.specs.Examples.{addresses, whole}

-- a record before the call, and what it is after it. Start and length stay. Of a part that is inside, number and canonical are as
-- `ax25_decode` and `ax25_canonical` promise them in the short mode, and the kind is that of the decoded frame. One that is not inside has 61.
-- The kind is always one that the header names
pub record Ended (m : Mode) (s : List ℕ) (before after : CaptureRecord) : Type 0 where
  pub start : after.start ≡ before.start
  pub long : after.length ≡ before.length
  pub number : before.start + before.length ≤ length s
      → (after.number ≡ number_of (decode m (part_of s before)).answer) × FirstRow (decode_table m (part_of s before)) after.number
  pub canonical : before.start + before.length ≤ length s → after.canonical ≡ cond (canonical m (part_of s before)) 1 0
  pub kind : before.start + before.length ≤ length s → after.kind ≡ kind_of (decode m (part_of s before)).frame.content
  pub outside : length s < before.start + before.length
      → (after.number ≡ 61) × (after.canonical ≡ 0) × (after.kind ≡ kind_of default_frame.content)
  pub named : after.kind < 14

-- all records of a call: as many as before, in their order; d is what `get_or` gives beyond the end, where nothing is asked of it
abbrev pub AllEnded : Mode → List ℕ → List CaptureRecord → List CaptureRecord → Type 0
AllEnded m s before after =
    (length after ≡ length before) × ((i : ℕ) (d : CaptureRecord) → i < length before → Ended m s (get_or before i d) (get_or after i d))

-- a buffer of 33 octets: an RR of 15 and document 01's frame of 18
abbrev pub day : List ℕ
day = addresses ++ (0x01 ∷ whole)

-- a record as the caller makes it: what the last three fields hold plays no part
abbrev pub asked : ℕ → ℕ → CaptureRecord
asked start length = record { start = start; length = length; number = 9; canonical = 9; kind = 9 }

pub record Case : Type 0 where
  pub start : ℕ
  pub long : ℕ
  pub number : ℕ
  pub canonical : ℕ
  pub kind : ℕ

abbrev pub short_cases : List Case
short_cases =
    -- the two frames, the second first; and the whole buffer, which is the RR with a tail
    record { start = 15; long = 18; number = 0; canonical = 1; kind = 11 }
    ∷ record { start = 0; long = 15; number = 0; canonical = 1; kind = 1 }
    ∷ record { start = 0; long = 33; number = 0; canonical = 0; kind = 1 }
    -- refused parts have the default frame's kind
    ∷ record { start = 0; long = 14; number = 4; canonical = 0; kind = 11 }
    ∷ record { start = 15; long = 13; number = 2; canonical = 0; kind = 11 }
    -- empty parts: at the start, at the very end, and beyond it
    ∷ record { start = 0; long = 0; number = 1; canonical = 0; kind = 11 }
    ∷ record { start = 33; long = 0; number = 1; canonical = 0; kind = 11 }
    ∷ record { start = 34; long = 0; number = 61; canonical = 0; kind = 11 }
    -- one octet too long; and from the last number of 64 bits on, two octets long, which in 64 bits would be 1
    ∷ record { start = 15; long = 19; number = 61; canonical = 0; kind = 11 }
    ∷ record { start = 0xFFFFFFFFFFFFFFFF; long = 2; number = 61; canonical = 0; kind = 11 }
    ∷ []

-- in the long mode the RR lacks its second control octet, and an octet of the next frame would be one
abbrev pub long_cases : List Case
long_cases =
    record { start = 0; long = 15; number = 12; canonical = 0; kind = 11 }
    ∷ record { start = 0; long = 16; number = 0; canonical = 1; kind = 1 }
    ∷ record { start = 15; long = 18; number = 0; canonical = 1; kind = 11 }
    ∷ []
