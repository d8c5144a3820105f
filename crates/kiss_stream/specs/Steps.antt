-- A run of octets that a loop of its own takes: the steps of the code, which `Feed` does not rest on.
use Rattle.std.specs.Prelude.{ℕ, ◌+◌, ◌-◌, ◌≤◌, ◌<◌, ◌≡◌, List, length, set, drop}
use Rattle.kiss_state.specs.declared.Stream.{Stream}
use Rattle.kiss_state.specs.State.{room, in_data, head_of, stream_of}
use Rattle.kiss_stream.specs.Feed.{later, taken_from}

-- a call that is in the state `s`, with `l` left of its piece, comes to the same as one in the state `t` with `r` left
abbrev pub Reaches : Stream → List ℕ → Stream → List ℕ → Type 0
Reaches s l t r = (length r ≤ length l) × (taken_from s l ≡ later (length l - length r) (taken_from t r))

-- the first two octets stand for an octet of data, which is stored wherever there is room for it
abbrev pub Stores : ℕ → List ℕ → Type 0
Stores b l =
    (octets : List ℕ) (n p d : ℕ)
    → n < room
    → Reaches (stream_of octets (head_of n p in_data d)) l (stream_of (set octets n b) (head_of (n + 1) p in_data d)) (drop 2 l)
