-- What `follow` prints of a recorded link (document 02, M-112): of the two texts that name its stations, of each frame, and at the end.
use Rattle.std.specs.Prelude.{ℕ, Bool, true, false, Result, cond, List, [], ◌++◌, Option, Some, None, Ok, Err, eqb, ltb}
use Rattle.octets.specs.Outcome.{number_by}
use Rattle.address.specs.declared.Address.{Address}
use Rattle.text.specs.Text.{address_number_of, read_text}
use Rattle.text.specs.declared.AddressError.{AddressError}
use Rattle.link_record.specs.Record.{LinkAnswer, number_of, fresh}
use Rattle.link_record.specs.declared.Link.{Link}
use Rattle.link_record.specs.declared.LinkError.TheVariants.{NotEncodable, EqualStations, Unsound, Full, Refused}
use Rattle.link.specs.Step.{step_of, sender_of}
use Rattle.link_frame.specs.declared.Side.{Side}
use Rattle.link_frame.specs.declared.Side.TheVariants.{A, B}
use Rattle.words.specs.Ascii.{ascii}
use Rattle.words.specs.Words.{decimal, line}
use Rattle.words.specs.Room.{behind}
use Rattle.following.specs.declared.Begun.{Begun}
use Rattle.following.specs.declared.Followed.{Followed}

-- a number that refuses, alone on its line; nothing where it is 0
unfoldable pub answer_text : ℕ → List ℕ
answer_text n = cond (eqb n 0) [] (line "answer=" (decimal n))

-- ---- the two texts
-- the link between the two stations is followed from a fresh record; the first text is looked at first
abbrev pub linked : Result Address AddressError → Result Address AddressError → Result Link AddressError
linked (Ok a) (Ok b) = Ok (fresh a b)
linked (Ok a) (Err e) = Err e
linked (Err e) b = Err e

abbrev pub between : List ℕ → List ℕ → Result Link AddressError
between a b = linked (read_text a) (read_text b)

-- the number that they are refused by: the first text's, or the second's where the first is read
abbrev pub texts_number : List ℕ → List ℕ → ℕ
texts_number a b = number_by address_number_of (between a b)

-- what is printed of them
abbrev pub begin_text : List ℕ → List ℕ → List ℕ
begin_text a b = answer_text (texts_number a b)

abbrev pub begun : List ℕ → List ℕ → ℕ → Begun
begun a b room = record { link = between a b; length = behind room 0 (begin_text a b) }

-- ---- a frame
-- the answers at which no further frame is offered: 22, 72 and 71, which every later frame would be given too, and 73, which no fresh record
-- comes to. A frame that decoding refuses is passed over
abbrev pub stops : LinkAnswer → Bool
stops (Ok u) = false
stops (Err NotEncodable) = true
stops (Err EqualStations) = true
stops (Err Unsound) = true
stops (Err Full) = true
stops (Err (Refused a)) = false

-- whose frame it is, by the argument that names its sender. Of others' frames none is a gap
abbrev pub from_text : Option Side → List ℕ
from_text (Some A) = ascii " from=A\n"
from_text (Some B) = ascii " from=B\n"
from_text None = ascii "\n"

-- a gap, by its place among the frames, counted from 1, and its sender
abbrev pub gap_line : ℕ → Option Side → List ℕ
gap_line place sender = ascii "gap=" ++ (decimal place ++ from_text sender)

-- a frame that is a gap is one that makes the gaps more; its place is the number offered behind it
unfoldable pub gap_text : Link → Link → List ℕ → List ℕ
gap_text before after frame = cond (ltb before.gaps after.gaps) (gap_line after.offered (sender_of before frame)) []

-- what is printed of a frame that is offered: the answer that stops it, or a gap, or nothing
unfoldable pub offered_text : Link → List ℕ → List ℕ
offered_text l frame =
    cond (stops (step_of l frame).answer) (answer_text (number_of (step_of l frame).answer)) (gap_text l (step_of l frame).link frame)

-- once it has stopped, no frame is offered, and nothing is printed of it
unfoldable pub follow_text : Link → Bool → List ℕ → List ℕ
follow_text l stopped frame = cond stopped [] (offered_text l frame)

unfoldable pub followed : Link → Bool → List ℕ → ℕ → Followed
followed l stopped frame room =
    cond stopped (record { link = l; stopped = true; length = 0 })
    (record { link = (step_of l frame).link; stopped = stops (step_of l frame).answer; length = behind room 0 (offered_text l frame) })

-- ---- the end
-- the numbers of the record, and how many packets the stream dropped, a line each in this order
unfoldable pub first_totals : Link → List ℕ
first_totals l = line "offered=" (decimal l.offered) ++ (line "in_order=" (decimal l.in_order) ++ line "repeated=" (decimal l.repeated))

unfoldable pub last_totals : Link → ℕ → List ℕ
last_totals l dropped = line "gaps=" (decimal l.gaps) ++ (line "outside=" (decimal l.outside) ++ line "dropped=" (decimal dropped))

abbrev pub totals_text : Link → ℕ → List ℕ
totals_text l dropped = first_totals l ++ last_totals l dropped
