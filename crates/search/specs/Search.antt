-- The test that the search makes of each octet.
use Rattle.std.specs.Prelude.{ℕ, Bool, not, eqb}
use Rattle.std.specs.Int.Bits.{bit_and}

-- whether a bit of the mask is set
abbrev pub masked : ℕ → ℕ → Bool
masked mask b = not (eqb (bit_and b mask) 0)
