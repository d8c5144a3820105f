-- Document 02, M-103: KISS packets. The numbers of reading and of writing as tables, what one spelling is, and the settled cases.
use Rattle.std.specs.Prelude.{ℕ, ◌+◌, ◌≤◌, ◌≡◌, List, [], ◌∷◌, ltb, length}
use Rattle.octets.specs.Octet.{Octets}
use Rattle.octets.specs.Count.{count}
use Rattle.escapes.specs.Escape.{special}
use Rattle.kiss.specs.Packet.{packet}
use Rattle.demands_kiss.specs.Numbers.{no_opening, nothing, stray_type, not_data, port_over, stray_data, not_closed, short}
use Rattle.octets.specs.Table.{Table}

-- reading: the first met from left to right, 54 before 56 on one octet, then 24. A DB in the type octet's place is met before what that
-- octet says, and one in the data after it, so 52 has two rows
abbrev pub kiss_read_table : List ℕ → ℕ → Table
kiss_read_table s room =
    (51, no_opening s) ∷ (55, nothing s) ∷ (52, stray_type s) ∷ (54, not_data s) ∷ (56, port_over s) ∷ (52, stray_data s) ∷ (53, not_closed s)
    ∷ (24, short s room) ∷ []

-- the length of a packet: two C0, the type octet, the data, and one more for each C0 and DB in it
abbrev pub kiss_length : List ℕ → ℕ
kiss_length s = 3 + length s + count special s

-- writing: 56, then 24
abbrev pub kiss_write_table : ℕ → List ℕ → ℕ → Table
kiss_write_table port s room = (56, ltb 11 port) ∷ (24, ltb room (kiss_length s)) ∷ []

-- s is the packet of some octets on some port of 0 to 11
pub record SpelledPacket (s : List ℕ) : Type 0 where
  pub port : ℕ
  pub octets : List ℕ
  pub bytes : Octets octets
  pub in_range : port ≤ 11
  pub spells : packet port octets ≡ s

-- inputs, and the number that each gives
abbrev pub kiss_cases : List (List ℕ × ℕ)
kiss_cases =
    -- no opening C0
    ([], 51) ∷ (0x00 ∷ 0xC0 ∷ [], 51)
    -- one C0 alone
    ∷ (0xC0 ∷ [], 53)
    -- nothing between the two C0, whatever stands behind them
    ∷ (0xC0 ∷ 0xC0 ∷ [], 55) ∷ (0xC0 ∷ 0xC0 ∷ 0x00 ∷ 0xC0 ∷ [], 55)
    -- DB in the type octet's place: last, before C0, before another octet
    ∷ (0xC0 ∷ 0xDB ∷ [], 52) ∷ (0xC0 ∷ 0xDB ∷ 0xC0 ∷ [], 52) ∷ (0xC0 ∷ 0xDB ∷ 0x00 ∷ 0xC0 ∷ [], 52)
    -- the type octet, escapes removed, is examined where it stands: C0 is of port 12, DB of command 11
    ∷ (0xC0 ∷ 0xDB ∷ 0xDC ∷ [], 56) ∷ (0xC0 ∷ 0xDB ∷ 0xDD ∷ [], 54)
    ∷ (0xC0 ∷ 0x01 ∷ [], 54) ∷ (0xC0 ∷ 0x01 ∷ 0xDB ∷ [], 54) ∷ (0xC0 ∷ 0xC1 ∷ 0x00 ∷ 0xC0 ∷ [], 54)
    ∷ (0xC0 ∷ 0xD0 ∷ [], 56) ∷ (0xC0 ∷ 0xD0 ∷ 0xDB ∷ [], 56)
    -- DB in the data: last, before C0
    ∷ (0xC0 ∷ 0x00 ∷ 0xDB ∷ [], 52) ∷ (0xC0 ∷ 0x00 ∷ 0xDB ∷ 0xC0 ∷ [], 52)
    -- no closing C0, and octets after it
    ∷ (0xC0 ∷ 0x00 ∷ 0x41 ∷ [], 53) ∷ (0xC0 ∷ 0x00 ∷ 0xC0 ∷ 0x41 ∷ [], 53) ∷ (0xC0 ∷ 0x00 ∷ 0xC0 ∷ 0xDB ∷ [], 53)
    -- accepted: no data, an escape, the last port
    ∷ (0xC0 ∷ 0x00 ∷ 0xC0 ∷ [], 0) ∷ (0xC0 ∷ 0x00 ∷ 0xDB ∷ 0xDC ∷ 0xC0 ∷ [], 0) ∷ (0xC0 ∷ 0xB0 ∷ 0x41 ∷ 0xC0 ∷ [], 0)
    ∷ []
