-- Seven places from `at` on: where they are there each one is, and where the number behind them fits each of theirs does.
use Prim.Native.Nat.{ℕ, ◌+◌, ◌≤◌, ◌<◌}
use native.Mathlib.Omega.{arith}
use mir.Facts.{Fits-le}
use mir.Syntax.{w64}
use mir.Val.{Fits}

pub within : (at k n : ℕ) → k < 7 → at + 7 ≤ n → at + k < n
within at k n h p = omega arith

pub fits : (at k : ℕ) → k ≤ 7 → Fits w64 (at + 7) → Fits w64 (at + k)
fits at k h f = Fits-le (omega arith) f
