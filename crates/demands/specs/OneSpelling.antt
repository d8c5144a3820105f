-- Demand 3: one spelling, in each mode (document 02, M-109).
use Rattle.std.specs.Prelude.{ℕ, ◌+◌, ◌*◌, ◌≤◌, ◌<◌, ◌≡◌, true, Ok, List, ◌↔◌, length, drop}
use Rattle.content.specs.Spell.{has_info}
use Rattle.control.specs.declared.Mode.{Mode}
use Rattle.decode.specs.Answer.{is_accepted}
use Rattle.decode.specs.Read.{end_of, decode, info_in}
use Rattle.frame.specs.Spell.{spell, Plain, with_mark, in_use}
use Rattle.frame.specs.declared.Ax25Frame.{Ax25Frame}
use Rattle.grammar.specs.Stations.{reserved_at}
use Rattle.spelling.specs.Canonical.{again, canonical}
use Rattle.respelling.specs.Reencode.{reencode, reencoded}

-- a plain frame that spells these octets by the grammar
pub record Spelled (m : Mode) (s : List ℕ) : Type 0 where
  pub frame : Ax25Frame
  pub info : List ℕ
  pub plain : Plain m frame info
  pub spells : spell m frame info ≡ s

-- t is s respelled: canonical, no longer, and with the same meaning
pub record Respelled (m : Mode) (s t : List ℕ) : Type 0 where
  pub accepted : is_accepted (decode m t).answer ≡ true
  pub yes : canonical m t ≡ true
  pub shorter : length t ≤ length s
  -- the same frame, an absent mark made Command
  pub frame : (decode m t).frame ≡ with_mark (decode m s).frame
  -- the same info octets
  pub info : info_in t (decode m t) ≡ info_in s (decode m s)
  -- of a kind with info, I, UI, XID or TEST, the same octets after the address field: control, PID where there is one, and info (document 02, M-105)
  pub content : has_info (decode m s).frame.content ≡ true → drop (14 + 7 * (decode m s).frame.route_count) t ≡ drop (end_of s + 1) s
  -- of every kind the same reserved bits in every group (document 02, M-106)
  pub reserved : (j : ℕ) → j < (decode m s).frame.route_count + 2 → reserved_at t j ≡ reserved_at s j

pub record OneSpelling (m : Mode) (s : List ℕ) : Type 0 where
  -- exact: the canonical check says yes exactly when some plain frame spells those octets
  pub exact : canonical m s ≡ true ↔ Spelled m s
  -- one: that frame is the only one, in all that is in use and in info
  pub one : (a b : Spelled m s) → (in_use a.frame ≡ in_use b.frame) × (a.info ≡ b.info)
  -- again: every accepted input is respelled
  pub respelled : is_accepted (decode m s).answer ≡ true → Respelled m s (again m s)
  -- and room of the input's length is enough to write that
  pub written : is_accepted (decode m s).answer ≡ true → (room : ℕ) → length s ≤ room
      → (reencode m s room ≡ Ok (length (again m s))) × (reencoded m s room ≡ again m s)
