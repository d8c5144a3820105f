-- Why an input is not canonical (document 02, M-110), told from its octets: of an accepted input the first condition that holds, of a refused
-- one the number and a place.
use Rattle.std.specs.Prelude.{ℕ, ◌+◌, ◌%◌, Bool, cond, not, ◌||◌, List, eqb, get_or, drop}
use Rattle.group.specs.Group.{mark_set}
use Rattle.control.specs.declared.Mode.{Mode}
use Rattle.content_as_written.specs.AsWritten.{has_tail, is_tidy}
use Rattle.frame.specs.Spell.{marked}
use Rattle.decode.specs.Answer.{number_of, is_accepted}
use Rattle.decode.specs.Read.{end_of, command_of, decode}
use Rattle.decode.specs.Outline.{outline_of}
use Rattle.reason.specs.declared.Reason.{Reason}
use Rattle.reason.specs.declared.Reason.TheVariants.{None, Leftover, Marks, Tail, Fixed, Refused}
use Rattle.reason.specs.declared.Judged.{Judged}
use Rattle.reason.specs.declared.Why.{Why}

-- leftover: the span of the address field, which starts with the first octet, is not a multiple of seven
abbrev pub is_leftover : ℕ → Bool
is_leftover end = not (eqb ((end + 1) % 7) 0)

-- marks: the mark is absent by rule 4, from the last octets of the destination's and the source's group
abbrev pub is_unmarked : List ℕ → Bool
is_unmarked s = not (marked (command_of (mark_set (get_or s 6 0)) (mark_set (get_or s 13 0))))

-- the first that holds of leftover, marks, tail (octets after a kind without info) and fixed (ignored FRMR or long-mode bits set)
unfoldable pub first_of : Bool → Bool → Bool → Bool → Reason
first_of leftover marks tail fixed = cond leftover Leftover (cond marks Marks (cond tail Tail (cond fixed Fixed None)))

-- of an accepted input with this end
unfoldable pub accepted_reason : Mode → List ℕ → ℕ → Reason
accepted_reason m s end = first_of (is_leftover end) (is_unmarked s) (has_tail m (drop (end + 1) s)) (not (is_tidy m (drop (end + 1) s)))

-- of any input: refused where decoding is
unfoldable pub reason_of : Mode → List ℕ → Reason
reason_of m s = cond (is_accepted (decode m s).answer) (accepted_reason m s (end_of s)) Refused

-- the reason beside the outline that it is told by, for who goes on from both
abbrev pub judged_of : Mode → List ℕ → Judged
judged_of m s = record { outline = outline_of m s; reason = reason_of m s }

-- the place, by the decode number: 0 for 1, 2 and 10, and of an accepted input; the end octet for 3 and 4; for 9 where a ninth repeater
-- starts; the control octet for all others
unfoldable pub place_of : ℕ → List ℕ → ℕ
place_of n s =
    cond (eqb n 0 || eqb n 1 || eqb n 2 || eqb n 10) 0
    (cond (eqb n 3 || eqb n 4) (end_of s)
    (cond (eqb n 9) 70
    (end_of s + 1)))

-- the whole: the reason with the decode number, which is 0 of an accepted input, and the place
unfoldable pub why_of : Mode → List ℕ → Why
why_of m s = record {
  reason = reason_of m s;
  number = number_of (decode m s).answer;
  place = place_of (number_of (decode m s).answer) s;
}

-- the number of each reason, in the request's order
abbrev pub code_of : Reason → ℕ
code_of None = 0
code_of Leftover = 1
code_of Marks = 2
code_of Tail = 3
code_of Fixed = 4
code_of Refused = 5

-- whether there is none against the input
abbrev pub is_none : Reason → Bool
is_none r = eqb (code_of r) 0
