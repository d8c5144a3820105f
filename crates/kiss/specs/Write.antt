-- Writing one whole packet: 56, then 24 (document 02, M-103).
use Rattle.std.specs.Prelude.{ℕ, cond, List, Result, Ok, Err, ltb, length}
use Rattle.octets.specs.Outcome.{octets_of}
use Rattle.kiss.specs.Packet.{last_port, packet}
use Rattle.kiss.specs.declared.KissWriteError.{KissWriteError}
use Rattle.kiss.specs.declared.KissWriteError.TheVariants.{PortTooHigh, NoRoom}

-- the numbers of document 02, M-103; 24 is document 01's
abbrev pub number_of : KissWriteError → ℕ
number_of PortTooHigh = 56
number_of NoRoom = 24

-- the packet where so much room is lent, or why there is none
unfoldable pub written : ℕ → List ℕ → ℕ → Result (List ℕ) KissWriteError
written port s room = cond (ltb last_port port) (Err PortTooHigh) (cond (ltb room (length (packet port s))) (Err NoRoom) (Ok (packet port s)))

-- what is written: the packet, and nothing on a refusal
abbrev pub octets_written : ℕ → List ℕ → ℕ → List ℕ
octets_written port s room = octets_of (written port s room)
