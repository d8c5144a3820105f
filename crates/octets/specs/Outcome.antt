-- What is or is not refused, as numbers: what the papers say of a refusal, its number and its length 0, of a `Result`.
use Rattle.std.specs.Prelude.{ℕ, List, [], Result, Ok, Err, length}

-- the number of an answer: 0 where nothing is refused, else that of the refusal
abbrev pub number_by : {T E : Type 0} → (E → ℕ) → Result T E → ℕ
number_by number (Ok x) = 0
number_by number (Err e) = number e

-- how many octets were written: none where that was refused
abbrev pub length_of : {E : Type 0} → Result ℕ E → ℕ
length_of (Ok n) = n
length_of (Err e) = 0

-- what is put into a lent buffer: nothing where that is refused
abbrev pub octets_of : {E : Type 0} → Result (List ℕ) E → List ℕ
octets_of (Ok s) = s
octets_of (Err e) = []

-- the same with how many octets there are in their place
abbrev pub measured : {E : Type 0} → Result (List ℕ) E → Result ℕ E
measured (Ok s) = Ok (length s)
measured (Err e) = Err e

-- an answer that gives a value where nothing is refused
abbrev pub giving : {T E : Type 0} → Result Unit E → T → Result T E
giving (Ok tt) v = Ok v
giving (Err e) v = Err e

-- the octets that are written: none at a refusal
abbrev pub octets_by : {T E : Type 0} → Result T E → List ℕ → List ℕ
octets_by (Ok x) s = s
octets_by (Err e) s = []
