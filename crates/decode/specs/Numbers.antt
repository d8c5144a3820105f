-- When each number of decoding is given (document 01, Numbers; document 02, M-108 and M-109), said of the octets and not by decoding them.
use Rattle.std.specs.Prelude.{ℕ, ◌+◌, Bool, cond, not, List, eqb, ltb, leb, length, get_or, drop}
use Rattle.octets.specs.Octet.{bit}
use Rattle.octets.specs.All.{all}
use Rattle.control.specs.declared.Mode.{Mode}
use Rattle.parse.specs.Numbers.{rows}
use Rattle.decode.specs.Answer.{Report, number}
use Rattle.decode.specs.Read.{nonzero, end_of, repeaters_of}

-- 1: no nonzero octet
abbrev pub no_start : List ℕ → Bool
no_start s = all (λ b. not (nonzero b)) s

-- 10: the first octet is null. Of octets that are all null, and of none, 1 comes before
abbrev pub leading_null : List ℕ → Bool
leading_null s = not (nonzero (get_or s 0 0))

-- 2: no octet with its low bit set
abbrev pub no_end : List ℕ → Bool
no_end s = all (λ b. not (bit 0 b)) s

-- 3: span below 14, the start being 0
abbrev pub short_field : List ℕ → Bool
short_field s = ltb (end_of s + 1) 14

-- 4: nothing after the end
abbrev pub no_content : List ℕ → Bool
no_content s = eqb (end_of s + 1) (length s)

-- 9: nine or more repeaters. AX.25 has two (docs/DIFFERENCES.md, A7), the Rust any number (B1)
abbrev pub many_repeaters : List ℕ → Bool
many_repeaters s = leb 9 (repeaters_of 0 (end_of s))

-- the table in decoding's order: 1, 10, 2, 3 with start and end, 4 with length, 9, then the content's number
unfoldable pub reported : Mode → List ℕ → Report
reported m s =
    cond (no_start s) (number 1)
    (cond (leading_null s) (number 10)
    (cond (no_end s) (number 2)
    (cond (short_field s) (record { number = 3; start = 0; end = end_of s; len = 0 })
    (cond (no_content s) (record { number = 4; start = 0; end = 0; len = length s })
    (cond (many_repeaters s) (number 9)
    (number (rows m (drop (end_of s + 1) s))))))))
