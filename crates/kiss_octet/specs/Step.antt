-- One octet of a serial line: what it does to the state, and whether a packet is given out at it (document 02, M-104).
use Rattle.std.specs.Prelude.{ℕ, ◌+◌, Bool, true, false, cond, Option, Some, None, List, ltb, eqb, set}
use Rattle.octets.specs.Octet.{field}
use Rattle.escapes.specs.Escape.{fend, fesc, tfend, tfesc}
use Rattle.kiss.specs.Packet.{last_port}
use Rattle.kiss_state.specs.declared.Head.{Head}
use Rattle.kiss_state.specs.declared.Stream.{Stream}
use Rattle.kiss_state.specs.State.{room, opened, in_data, in_escape, dropping, in_type, head_of, phased, none_in}
use Rattle.kiss_octet.specs.declared.Move.{Move}

-- the count stops here
abbrev pub last_count : ℕ
last_count = 65535

unfoldable pub counted_of : ℕ → ℕ
counted_of n = cond (ltb n last_count) (n + 1) n

-- the packet is dropped, and counted
unfoldable pub drop_of : Head → ℕ → Head
drop_of h f = head_of 0 0 f (counted_of h.dropped)

-- an octet that completes neither data nor a packet
abbrev pub quiet_of : Head → Move
quiet_of h = record { head = h; octet = None; ready = false }

-- an octet of data, its escape removed: there is room for it, or it is the 1,025th
unfoldable pub put_of : Head → ℕ → Move
put_of h b =
    cond (ltb h.length room)
    (record { head = head_of (h.length + 1) h.port in_data h.dropped; octet = Some b; ready = false })
    (quiet_of (drop_of h dropping))

-- the type octet, its escape removed: M-103 refuses a command other than 0 in its low half, and a port over 11 in its high half
unfoldable pub typed_of : Head → ℕ → Move
typed_of h t =
    cond (eqb (field 0 4 t) 0)
    (cond (ltb last_port (field 4 4 t)) (quiet_of (drop_of h dropping)) (quiet_of (head_of 0 (field 4 4 t) in_data h.dropped)))
    (quiet_of (drop_of h dropping))

-- an octet behind a DB that is neither DC nor DD: where it is C0, it opens the next packet
unfoldable pub stray_of : Head → ℕ → Move
stray_of h b = quiet_of (drop_of h (cond (eqb b fend) opened dropping))

-- an octet behind a DB: what the octet that the two stand for does
unfoldable pub unescaped : (does : ℕ → Move) → Head → ℕ → Move
unescaped does h b = cond (eqb b tfend) (does fend) (cond (eqb b tfesc) (does fesc) (stray_of h b))

-- an octet before the first C0, or of a packet that is dropped: all are passed over up to the next C0
unfoldable pub outside_of : Head → ℕ → Move
outside_of h b = cond (eqb b fend) (quiet_of (none_in h opened)) (quiet_of h)

-- an octet behind a C0: another C0 is passed over
unfoldable pub opened_of : Head → ℕ → Move
opened_of h b = cond (eqb b fend) (quiet_of h) (cond (eqb b fesc) (quiet_of (phased h in_type)) (typed_of h b))

-- an octet behind the type octet: C0 gives the packet out, and opens the next
unfoldable pub data_of : Head → ℕ → Move
data_of h b =
    cond (eqb b fend) (record { head = phased h opened; octet = None; ready = true })
    (cond (eqb b fesc) (quiet_of (phased h in_escape)) (put_of h b))

-- what an octet does, by the phase
unfoldable pub move_of : Head → ℕ → Move
move_of h b =
    cond (eqb h.phase in_data) (data_of h b)
    (cond (eqb h.phase opened) (opened_of h b)
    (cond (eqb h.phase in_escape) (unescaped (put_of h) h b)
    (cond (eqb h.phase in_type) (unescaped (typed_of h) h b)
    (outside_of h b))))

-- the array after it: the octet of data at the length that was, or none
abbrev pub stored : Option ℕ → ℕ → List ℕ → List ℕ
stored None at octets = octets
stored (Some b) at octets = set octets at b

unfoldable pub stored_by : Move → ℕ → List ℕ → List ℕ
stored_by m at octets = stored m.octet at octets

-- the state after an octet, and whether a packet is given out at it
unfoldable pub step_of : Stream → ℕ → Stream
step_of s b = record { octets = stored_by (move_of s.head b) s.head.length s.octets; head = (move_of s.head b).head }

unfoldable pub gives : Stream → ℕ → Bool
gives s b = (move_of s.head b).ready
