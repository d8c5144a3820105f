-- Document 02, M-110: when there is no reason, settled cases of each reason, and the place of each number.
use Rattle.std.specs.Prelude.{ℕ, ◌<◌, ◌≡◌, true, false, List, [], ◌∷◌, ◌++◌, ◌↔◌, take}
use Rattle.control.specs.declared.Mode.{Mode}
use Rattle.control.specs.declared.Mode.TheVariants.{Short, Long}
use Rattle.decode.specs.Answer.{is_accepted}
use Rattle.decode.specs.Read.{decode}
use Rattle.reason.specs.Reason.{why_of, code_of}
use Rattle.reason.specs.declared.Reason.{Reason}
use Rattle.reason.specs.declared.Reason.TheVariants.{Leftover, Marks, Tail, Fixed, Refused}
use Rattle.spelling.specs.Canonical.{canonical}
use Rattle.octets.specs.Table.{FirstRow}
use Rattle.demands.specs.Numbers.{decode_table}
use Rattle.demands.specs.Examples.{addresses, whole}

-- none exactly for canonical input; refused just where decoding is, with the number of the table's first row that holds; an accepted input has
-- no number and no place
pub record Told (m : Mode) (s : List ℕ) : Type 0 where
  pub none : (code_of (why_of m s).reason ≡ 0) ↔ (canonical m s ≡ true)
  pub number : FirstRow (decode_table m s) (why_of m s).number
  pub refused : is_accepted (decode m s).answer ≡ false → (why_of m s).reason ≡ Refused
  pub accepted : is_accepted (decode m s).answer ≡ true → (code_of (why_of m s).reason < 5) × ((why_of m s).number ≡ 0) × ((why_of m s).place ≡ 0)

-- an input that gives a reason, beside the same without that defect, which gives none
pub record Pair : Type 0 where
  pub mode : Mode
  pub reason : Reason
  pub with : List ℕ
  pub without : List ℕ

-- document 01's address octets with the destination's mark clear, so that neither is set
abbrev pub unmarked : List ℕ
unmarked = take 6 addresses ++ (0x60 ∷ 0x84 ∷ 0x9E ∷ 0xB0 ∷ 0x62 ∷ 0x64 ∷ 0x40 ∷ 0x67 ∷ [])

-- and with one octet left over before the end
abbrev pub one_over : List ℕ
one_over = take 13 addresses ++ (0x66 ∷ 0x41 ∷ [])

abbrev pub pairs : List Pair
pairs =
    record { mode = Short; reason = Leftover; with = one_over ++ (0x03 ∷ 0xF0 ∷ 0x4F ∷ 0x4B ∷ []); without = whole }
    ∷ record { mode = Short; reason = Marks; with = unmarked ++ (0x03 ∷ 0xF0 ∷ []); without = addresses ++ (0x03 ∷ 0xF0 ∷ []) }
    -- P12, and a UA of the long mode
    ∷ record { mode = Short; reason = Tail; with = addresses ++ (0x01 ∷ 0xAA ∷ []); without = addresses ++ (0x01 ∷ []) }
    ∷ record { mode = Long; reason = Tail; with = addresses ++ (0x63 ∷ 0xAA ∷ []); without = addresses ++ (0x63 ∷ []) }
    -- P11: FRMR's bits; and those of an S frame of the long mode
    ∷ record { mode = Short; reason = Fixed; with = addresses ++ (0x87 ∷ 0xF1 ∷ 0x03 ∷ 0x44 ∷ []); without = addresses ++ (0x87 ∷ 0x01 ∷ 0x02 ∷ 0x44 ∷ []) }
    ∷ record { mode = Long; reason = Fixed; with = addresses ++ (0xFD ∷ 0x03 ∷ []); without = addresses ++ (0x0D ∷ 0x03 ∷ []) }
    -- of two defects the first, beside the same without both: leftover and marks, marks and tail, tail and fixed
    ∷ record { mode = Short; reason = Leftover; with = take 13 unmarked ++ (0x66 ∷ 0x41 ∷ 0x01 ∷ []); without = addresses ++ (0x01 ∷ []) }
    ∷ record { mode = Short; reason = Marks; with = unmarked ++ (0x01 ∷ 0xAA ∷ []); without = addresses ++ (0x01 ∷ []) }
    ∷ record { mode = Long; reason = Tail; with = addresses ++ (0xF1 ∷ 0x02 ∷ 0xAA ∷ []); without = addresses ++ (0x01 ∷ 0x02 ∷ []) }
    ∷ []

-- a refused input, its number, and the place that it is about
pub record Place : Type 0 where
  pub mode : Mode
  pub input : List ℕ
  pub number : ℕ
  pub place : ℕ

-- seven octets without an end bit
abbrev pub seven : List ℕ
seven = take 7 addresses

abbrev pub places : List Place
places =
    -- P1, P2, P6
    record { mode = Short; input = []; number = 1; place = 0 }
    ∷ record { mode = Short; input = 0x8E ∷ 0x82 ∷ []; number = 2; place = 0 }
    ∷ record { mode = Short; input = 0 ∷ whole; number = 10; place = 0 }
    -- P3, P4: the end octet
    ∷ record { mode = Short; input = take 12 addresses ++ (0x41 ∷ []); number = 3; place = 12 }
    ∷ record { mode = Short; input = addresses; number = 4; place = 13 }
    -- nine repeaters, and where the ninth starts
    ∷ record { mode = Short; input = seven ++ (seven ++ (seven ++ (seven ++ (seven ++ (seven ++ (seven ++ (seven ++ (seven ++ whole)))))))); number = 9; place = 70 }
    -- P7, a U frame of no kind, P10: the control octet; in the long mode FRMR, and an RNR whose first control octet is all there is
    ∷ record { mode = Short; input = addresses ++ (0x03 ∷ []); number = 5; place = 14 }
    ∷ record { mode = Short; input = addresses ++ (0x0B ∷ []); number = 7; place = 14 }
    ∷ record { mode = Short; input = addresses ++ (0x87 ∷ 0x01 ∷ 0x02 ∷ []); number = 8; place = 14 }
    ∷ record { mode = Long; input = addresses ++ (0x87 ∷ 0x01 ∷ 0x02 ∷ 0x44 ∷ []); number = 11; place = 14 }
    ∷ record { mode = Long; input = addresses ++ (0x05 ∷ []); number = 12; place = 14 }
    ∷ []
