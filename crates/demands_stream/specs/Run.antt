-- A whole line, octet after octet: every packet that is given out, and the state at the end. No call is in it, and no piece.
use Rattle.std.specs.Prelude.{ℕ, Bool, true, false, List, [], ◌∷◌, ◌++◌, take}
use Rattle.kiss_reading.specs.Answer.{Reading, accepted}
use Rattle.kiss_state.specs.declared.Stream.{Stream}
use Rattle.kiss_state.specs.State.{settled}
use Rattle.kiss_octet.specs.Step.{step_of, gives}

pub record Run : Type 0 where
  pub packets : List Reading
  pub stream : Stream

-- the packet that a state holds, as M-103's reader would give it
abbrev pub packet_in : Stream → Reading
packet_in s = accepted s.head.port (take s.head.length s.octets)

-- that packet, where it is given out, and what comes after it
abbrev pub giving : Bool → Stream → Run → Run
giving true s r = record { packets = packet_in s ∷ r.packets; stream = r.stream }
giving false s r = r

unfoldable pub run_of : Stream → List ℕ → Run
run_of s [] = record { packets = []; stream = s }
run_of s (b ∷ l) = giving (gives s b) (step_of s b) (run_of (step_of s b) l)

-- from any state: one that no call made is read as a fresh one
unfoldable pub line_of : Stream → List ℕ → Run
line_of s l = run_of (settled s) l

-- the packets of both, and the later state
abbrev pub then : Run → Run → Run
then r t = record { packets = r.packets ++ t.packets; stream = t.stream }

-- the same line in pieces
unfoldable pub in_pieces : Stream → List (List ℕ) → Run
in_pieces s [] = line_of s []
in_pieces s (p ∷ ps) = then (line_of s p) (in_pieces (line_of s p).stream ps)

unfoldable pub joined : List (List ℕ) → List ℕ
joined [] = []
joined (p ∷ ps) = p ++ joined ps
