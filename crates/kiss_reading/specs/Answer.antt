-- What reading a packet gives, and the numbers of its refusals.
use Rattle.std.specs.Prelude.{ℕ, List, [], Result, Ok, Err, length}
use Rattle.kiss_reading.specs.declared.KissError.{KissError}
use Rattle.kiss_reading.specs.declared.KissError.TheVariants.{NoOpening, Empty, BadEscape, NotData, PortTooHigh, NoClosing, NoRoom}
use Rattle.kiss_reading.specs.declared.KissRead.{KissRead}

-- the numbers of document 02, M-103; 24 is document 01's
abbrev pub number_of : KissError → ℕ
number_of NoOpening = 51
number_of Empty = 55
number_of BadEscape = 52
number_of NotData = 54
number_of PortTooHigh = 56
number_of NoClosing = 53
number_of NoRoom = 24

-- what an accepted packet gives: a port and the data
pub record Given : Type 0 where
  pub port : ℕ
  pub octets : List ℕ

-- or why a packet is refused
abbrev pub Reading : Type 0
Reading = Result Given KissError

abbrev pub accepted : ℕ → List ℕ → Reading
accepted port s = Ok (record { port = port; octets = s })

-- a refusal gives port 0 and no data
abbrev pub port_given : Reading → ℕ
port_given (Ok g) = g.port
port_given (Err e) = 0

abbrev pub octets_given : Reading → List ℕ
octets_given (Ok g) = g.octets
octets_given (Err e) = []

-- the same as the function returns it, the data being in the lent output
abbrev pub read_of : Reading → Result KissRead KissError
read_of (Ok g) = Ok (record { port = g.port; length = length g.octets })
read_of (Err e) = Err e
