-- How long control fields are.
use Prim.Native.Nat.{ℕ, ◌+◌, ◌≤◌, ◌<◌}
use mathlib.Core.Path.{◌≡◌, refl}
use mathlib.Core.Bool.{Bool}
use mathlib.Core.List.{[], ◌∷◌, ◌++◌}
use native.Mathlib.Omega.{arith}
use lib.ListN.{length}
use Rattle.control.specs.Mode.{controls}
use Rattle.control.specs.Spell.{sequenced}
use Rattle.control.specs.declared.Mode.{Mode}
use Rattle.control.specs.declared.Mode.TheVariants.{Short, Long}

-- a control field has one octet or two
pub some_control : (m : Mode) → 0 < controls m
some_control Short = omega arith
some_control Long = omega arith

pub few-controls : (m : Mode) → controls m ≤ 2
few-controls Short = omega arith
few-controls Long = omega arith

-- how long the control field of an I or S frame is, and what stands before an I frame's info
pub sequenced-length : (m : Mode) (receive : ℕ) (on : Bool) (low : ℕ) → length (sequenced m receive on low) ≡ controls m
sequenced-length Short receive on low = refl
sequenced-length Long receive on low = refl

pub before_info : (m : Mode) (receive : ℕ) (on : Bool) (low pid : ℕ) → length (sequenced m receive on low ++ (pid ∷ [])) ≡ controls m + 1
before_info Short receive on low pid = refl
before_info Long receive on low pid = refl
