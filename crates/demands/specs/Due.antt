-- Document 02, M-102: the due place in its words, the marks that are in order, and the frame of the report.
use Rattle.std.specs.Prelude.{ℕ, ◌<◌, ◌≤◌, ◌≡◌, true, false, cond, List, [], ◌∷◌, ◌++◌, ltb, take}
use Rattle.frame.specs.declared.Ax25Frame.{Ax25Frame}
use Rattle.hops.specs.Hops.{marked_at}
use Rattle.relay.specs.Relay.{report_of, relay_answer_as, relayed_as}
use Rattle.demands.specs.Examples.{addresses}

-- the route count; a count over 8 is read as 8
abbrev pub places : Ax25Frame → ℕ
places f = cond (ltb 8 f.route_count) 8 f.route_count

-- d is the first unmarked place below the route count, or the route count if all are marked
pub record FirstUnmarked (f : Ax25Frame) (d : ℕ) : Type 0 where
  pub before : (k : ℕ) → k < d → marked_at f.route f.route_count k ≡ true
  pub here : d < places f → marked_at f.route f.route_count d ≡ false
  pub within : d ≤ places f

-- no mark follows an unmarked place
abbrev pub InOrder : Ax25Frame → Type 0
InOrder f = (i j : ℕ) → i < j → j < 8 → marked_at f.route f.route_count j ≡ true → marked_at f.route f.route_count i ≡ true

-- the report's frame: to GAUGE, from BOX12-3, by HILL5-1, HILL1-2 and HILL6-1, of which the first and the third are marked
abbrev pub reported : List ℕ
reported =
    take 13 addresses ++ (0x66 ∷ 0x90 ∷ 0x92 ∷ 0x98 ∷ 0x98 ∷ 0x6A ∷ 0x40 ∷ 0xE2 ∷ 0x90 ∷ 0x92 ∷ 0x98 ∷ 0x98 ∷ 0x62 ∷ 0x40 ∷ 0x64
    ∷ 0x90 ∷ 0x92 ∷ 0x98 ∷ 0x98 ∷ 0x6C ∷ 0x40 ∷ 0xE3 ∷ 0x03 ∷ 0xF0 ∷ [])

-- its three repeaters: H I L L, a digit, and the SSID
abbrev pub hills : List (List ℕ × ℕ)
hills =
    (72 ∷ 73 ∷ 76 ∷ 76 ∷ 53 ∷ [], 1) ∷ (72 ∷ 73 ∷ 76 ∷ 76 ∷ 49 ∷ [], 2) ∷ (72 ∷ 73 ∷ 76 ∷ 76 ∷ 54 ∷ [], 1) ∷ []

-- what one of them is answered, and what it leaves
abbrev pub offered : List ℕ × ℕ → ℕ × List ℕ
offered own = ((report_of (relay_answer_as own.0 own.1 reported)).number, relayed_as own.0 own.1 reported)
