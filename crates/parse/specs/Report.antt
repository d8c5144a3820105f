-- What document 01's table gives for an answer of reading: its number, and the details that the number gives, else 0.
use Rattle.std.specs.Prelude.{ℕ}

pub record Report : Type 0 where
  pub number : ℕ
  pub start : ℕ
  pub end : ℕ
  pub len : ℕ

-- a number that gives no details
abbrev pub number : ℕ → Report
number n = record { number = n; start = 0; end = 0; len = 0 }
