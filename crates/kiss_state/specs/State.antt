-- The state of a serial line: the data of the packet that is open, and four numbers (document 02, M-104).
use Rattle.std.specs.Prelude.{ℕ, cond, List, ltb}
use Rattle.kiss.specs.Packet.{last_port}
use Rattle.kiss_state.specs.declared.Head.{Head}
use Rattle.kiss_state.specs.declared.Stream.{Stream}

-- room for so many octets of data
abbrev pub room : ℕ
room = 1024

-- the phases, by what was read last: no C0 yet; a C0; the type octet or data; a DB in the data; something that makes the packet one to
-- drop; a DB in the type octet's place
abbrev pub outside : ℕ
outside = 0

abbrev pub opened : ℕ
opened = 1

abbrev pub in_data : ℕ
in_data = 2

abbrev pub in_escape : ℕ
in_escape = 3

abbrev pub dropping : ℕ
dropping = 4

abbrev pub in_type : ℕ
in_type = 5

abbrev pub head_of : (length port phase dropped : ℕ) → Head
head_of l p f d = record { length = l; port = p; phase = f; dropped = d }

-- the same in another phase
abbrev pub phased : Head → ℕ → Head
phased h f = head_of h.length h.port f h.dropped

-- no packet, and the count kept
abbrev pub none_in : Head → ℕ → Head
none_in h f = head_of 0 0 f h.dropped

abbrev pub stream_of : List ℕ → Head → Stream
stream_of octets h = record { octets = octets; head = h }

-- a state that no call made is read as a fresh one, its count kept
unfoldable pub settled_head : Head → Head
settled_head h =
    cond (ltb room h.length) (none_in h outside)
    (cond (ltb last_port h.port) (none_in h outside) (cond (ltb in_type h.phase) (none_in h outside) h))

abbrev pub settled : Stream → Stream
settled s = record { octets = s.octets; head = settled_head s.head }
