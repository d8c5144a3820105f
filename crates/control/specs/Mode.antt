-- The two ways of counting (document 02, M-109), which the caller knows of a link: AX.25's modulo 8 and its modulo 128.
use Rattle.std.specs.Prelude.{ℕ, Bool, true, false, cond, eqb}
use Rattle.control.specs.declared.Mode.{Mode}
use Rattle.control.specs.declared.Mode.TheVariants.{Short, Long}

abbrev pub is_long : Mode → Bool
is_long Short = false
is_long Long = true

-- sequence numbers of I and S frames are below this
abbrev pub limit : Mode → ℕ
limit Short = 8
limit Long = 128

-- so many control octets have I and S frames; U frames have one in both modes
abbrev pub controls : Mode → ℕ
controls Short = 1
controls Long = 2

-- a mode by its number: 0 is the short one, any other the long one
unfoldable pub mode_of : ℕ → Mode
mode_of n = cond (eqb n 0) Short Long
