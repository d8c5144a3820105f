-- Document 02, M-112, as statements: the numbers of following a link as a table, what a frame leaves as it was, the four counts beside the
-- recording itself, and settled cases.
use Rattle.std.specs.Prelude.{ℕ, ◌+◌, ◌≡◌, Bool, true, false, not, ◌&&◌, ◌||◌, List, [], ◌∷◌, ◌++◌, eqb, ltb, leb, take}
use Rattle.octets.specs.Count.{count}
use Rattle.octets.specs.Table.{Table, given, FirstRow}
use Rattle.control.specs.declared.Mode.TheVariants.{Short}
use Rattle.address.specs.Address.{with_ones, encodable}
use Rattle.address.specs.declared.Address.{Address}
use Rattle.frame.specs.declared.Ax25Frame.{Ax25Frame}
use Rattle.decode.specs.Answer.{is_accepted}
use Rattle.decode.specs.Read.{decode}
use Rattle.hops.specs.Station.{same_station}
use Rattle.captures.specs.Capture.{kind_of}
use Rattle.link_record.specs.Record.{number_of, fresh}
use Rattle.link_record.specs.declared.Link.{Link}
use Rattle.link.specs.Step.{tallied, step_of}
use Rattle.link.specs.declared.Stepped.{Stepped}
use Rattle.demands.specs.Numbers.{decode_table}
use Rattle.demands.specs.Examples.{addresses}

-- the rows that the record alone decides: a station that can't be written, equal stations, counts over the number offered or an expected number
-- over 7, and 65,535 offered
abbrev pub record_rows : Link → Table
record_rows l =
    (22, not (encodable l.a && encodable l.b)) ∷ (72, same_station l.a l.b)
    ∷ (73, ltb l.offered (l.in_order + l.repeated + l.gaps + l.outside) || (ltb 7 l.expected_from_a || ltb 7 l.expected_from_b))
    ∷ (71, leb 65535 l.offered) ∷ []

-- the table: those, then decoding's
abbrev pub link_table : Link → List ℕ → Table
link_table l s = record_rows l ++ decode_table Short s

-- between the two, in either direction
abbrev pub is_between : Address → Address → Ax25Frame → Bool
is_between a b f =
    (same_station a f.source && same_station b f.destination) || (same_station b f.source && same_station a f.destination)

-- an octet string that is a frame of such a kind between the two. It is told by its own octets, and nothing here knows of a link
abbrev pub is_of_kind : (ℕ → Bool) → Address → Address → List ℕ → Bool
is_of_kind p a b s = is_accepted (decode Short s).answer && (is_between a b (decode Short s).frame && p (kind_of (decode Short s).frame.content))

-- the I frames
abbrev pub is_information : Address → Address → List ℕ → Bool
is_information a b s = is_of_kind (λ n. eqb n 0) a b s

-- the kinds that a link is followed by: I, SABM, SABME, DISC, DM and UA
abbrev pub is_followed : ℕ → Bool
is_followed n = eqb n 0 || (leb 5 n && leb n 9)

-- only the number offered is one more
abbrev pub once_more : Link → Link
once_more l = tallied l l.in_order l.repeated l.gaps l.outside (l.offered + 1)

-- what offering s to a record gives
pub record Offered (l : Link) (s : List ℕ) (r : Stepped) : Type 0 where
  -- the number of the first row that holds
  pub number : FirstRow (link_table l s) (number_of r.answer)
  -- 22, 72, 73 and 71 change nothing
  pub unchanged : (given (record_rows l) ≡ 0 → ⊥) → r.link ≡ l
  -- else a frame that decoding refuses, one that is not between the two and one of another kind change only the number offered
  pub others : given (record_rows l) ≡ 0 → is_of_kind is_followed l.a l.b s ≡ false → r.link ≡ once_more l
  -- and all others too make that one more
  pub offered : given (record_rows l) ≡ 0 → r.link.offered ≡ l.offered + 1
  -- the stations stay
  pub stations : (r.link.a ≡ l.a) × (r.link.b ≡ l.b)

-- a recording, offered frame after frame; every octet string is a frame of it, a refused one too
unfoldable pub after : Link → List (List ℕ) → Link
after l [] = l
after l (s ∷ recording) = after (step_of l s).link recording

-- how many of the first 65,535 are I frames between the two
unfoldable pub information_in : Address → Address → List (List ℕ) → ℕ
information_in a b recording = count (is_information a b) (take 65535 recording)

-- from a fresh record of two different stations that can be written, the four counts add up to these, whatever is offered
abbrev pub CountsAddUp : Type 0
CountsAddUp =
    (a b : Address) → encodable a ≡ true → encodable b ≡ true → same_station a b ≡ false → (frames : List (List ℕ))
    → (after (fresh a b) frames).in_order + (after (fresh a b) frames).repeated + (after (fresh a b) frames).gaps + (after (fresh a b) frames).outside
    ≡ information_in a b frames

-- no record that was fresh, and to which frames were offered, is 73, whatever its stations are
abbrev pub NeverUnsound : Type 0
NeverUnsound = (a b : Address) (frames : List (List ℕ)) (s : List ℕ) → number_of (step_of (after (fresh a b) frames) s).answer ≡ 73 → ⊥

-- ---- a settled recording between BOX12-3 and GAUGE

abbrev pub box : Address
box = with_ones (0x42 ∷ 0x4F ∷ 0x58 ∷ 0x31 ∷ 0x32 ∷ 0x20 ∷ []) 3

abbrev pub gauge : Address
gauge = with_ones (0x47 ∷ 0x41 ∷ 0x55 ∷ 0x47 ∷ 0x45 ∷ 0x20 ∷ []) 0

-- content from the box to the gauge, and back
abbrev pub there : List ℕ → List ℕ
there content = addresses ++ content

abbrev pub back : List ℕ → List ℕ
back content =
    (0x84 ∷ 0x9E ∷ 0xB0 ∷ 0x62 ∷ 0x64 ∷ 0x40 ∷ 0x66 ∷ 0x8E ∷ 0x82 ∷ 0xAA ∷ 0x8E ∷ 0x8A ∷ 0x40 ∷ 0xE1 ∷ []) ++ content

-- an I frame by its control octet
abbrev pub information : ℕ → List ℕ
information control = control ∷ 0xF0 ∷ []

abbrev pub recording : List (List ℕ)
recording =
    -- I before the link is up: outside. A UA that nobody asked for
    there (information 0x00) ∷ back (0x73 ∷ [])
    -- SABM, a UA from the asker, and the one that makes the link up
    ∷ there (0x3F ∷ []) ∷ there (0x73 ∷ []) ∷ back (0x73 ∷ [])
    -- N(S) 7 before anything came in order: a gap. 0 and 1 in order, 1 repeated, 3 a gap
    ∷ there (information 0x0E) ∷ there (information 0x00) ∷ there (information 0x02) ∷ there (information 0x02) ∷ there (information 0x06)
    -- the other direction: 0 in order and repeated
    ∷ back (information 0x00) ∷ back (information 0x00)
    -- UI, octets that are no frame, and an octet string that is empty
    ∷ there (information 0x03) ∷ (0x8E ∷ 0x82 ∷ []) ∷ []
    -- DISC, and I behind it: outside
    ∷ back (0x53 ∷ []) ∷ back (information 0x02) ∷ []

abbrev pub recorded : Link
recorded = record {
  a = box;
  b = gauge;
  state = 0;
  expected_from_a = 2;
  expected_from_b = 1;
  moved_from_a = 1;
  moved_from_b = 1;
  in_order = 3;
  repeated = 2;
  gaps = 2;
  outside = 2;
  offered = 17;
}

-- ---- settled records, each with the number that P5's frame gets

-- from one station to another, with this expected number, these counts and this number offered
abbrev pub held : Address → Address → ℕ → ℕ → ℕ → ℕ → Link
held a b expected in_order repeated offered = record {
  a = a;
  b = b;
  state = 3;
  expected_from_a = expected;
  expected_from_b = 0;
  moved_from_a = 0;
  moved_from_b = 0;
  in_order = in_order;
  repeated = repeated;
  gaps = 0;
  outside = 0;
  offered = offered;
}

-- an address of zeros, as in a struct of zeros, and one whose SSID is too high
abbrev pub zeros : Address
zeros = record { callsign = 0 ∷ 0 ∷ 0 ∷ 0 ∷ 0 ∷ 0 ∷ []; ssid = 0; reserved = 0 }

abbrev pub high : Address
high = with_ones gauge.callsign 16

pub record Case : Type 0 where
  pub link : Link
  pub number : ℕ

abbrev pub cases : List Case
cases =
    record { link = held box gauge 7 3 4 7; number = 0 }
    -- 22 before 72, and 72 before 73; a struct of zeros is 72
    ∷ record { link = held high high 0 0 0 0; number = 22 }
    ∷ record { link = held gauge gauge 8 0 0 0; number = 72 }
    ∷ record { link = fresh zeros zeros; number = 72 }
    -- 73: one over the number offered; a sum that is 0 in 32 bits; an expected number of 8, before 71
    ∷ record { link = held box gauge 0 3 4 6; number = 73 }
    ∷ record { link = held box gauge 0 4294967295 1 0; number = 73 }
    ∷ record { link = held box gauge 8 0 0 65535; number = 73 }
    -- 71, and the last frame before it
    ∷ record { link = held box gauge 0 0 0 65535; number = 71 }
    ∷ record { link = held box gauge 0 0 0 65534; number = 0 }
    ∷ []
