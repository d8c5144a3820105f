-- The grammar: what a frame spells, and which frames are plain. No reader is imported here.
use Rattle.std.specs.Prelude.{ℕ, zero, suc, ◌≤◌, ◌<◌, ◌≡◌, Bool, true, false, cond, List, [], ◌∷◌, ◌++◌, eqb, ltb, length, get_or}
use Rattle.octets.specs.Octet.{Octets}
use Rattle.address.specs.Address.{PlainAddress}
use Rattle.group.specs.Group.{group_of}
use Rattle.content.specs.Spell.{has_info, front, PlainContent}
use Rattle.control.specs.declared.Mode.{Mode}
use Rattle.frame.specs.Frame.{no_entry}
use Rattle.frame.specs.declared.Mark.{Mark}
use Rattle.frame.specs.declared.Mark.TheVariants.{Command, Response, Absent}
use Rattle.frame.specs.declared.RouteEntry.{RouteEntry}
use Rattle.frame.specs.declared.Ax25Frame.{Ax25Frame}

-- what the logic reads past the end of an array of entries; a route of eight is never read there
abbrev pub past : RouteEntry
past = record { repeater = record { callsign = []; ssid = 0; reserved = 0 }; has_repeated = false }

abbrev pub repeater_at : List RouteEntry → ℕ → RouteEntry
repeater_at route i = get_or route i past

-- the groups of the first n repeaters of a route of `total`: the last of all carries the end bit
unfoldable pub groups_of : List RouteEntry → ℕ → ℕ → List ℕ
groups_of route total zero = []
groups_of route total (suc n) =
    groups_of route total n ++ group_of (repeater_at route n).repeater (repeater_at route n).has_repeated (eqb (suc n) total)

-- the marks of destination and source: an absent mark is written as Command (docs/DIFFERENCES.md, A12)
abbrev pub destination_mark : Mark → Bool
destination_mark Command = true
destination_mark Response = false
destination_mark Absent = true

abbrev pub source_mark : Mark → Bool
source_mark Command = false
source_mark Response = true
source_mark Absent = false

-- destination, source, repeaters: the end bit stands on the last group alone
unfoldable pub address_field : Ax25Frame → List ℕ
address_field f =
    group_of f.destination (destination_mark f.command_or_response) false
    ++ (group_of f.source (source_mark f.command_or_response) (eqb f.route_count 0)
    ++ groups_of f.route f.route_count f.route_count)

-- the address field, then the content, nothing before or after
unfoldable pub spell : Mode → Ax25Frame → List ℕ → List ℕ
spell m f info = address_field f ++ (front m f.content ++ info)

-- whether the mark is there
abbrev pub marked : Mark → Bool
marked Command = true
marked Response = true
marked Absent = false

-- the frame with an absent mark made Command, as it is written
abbrev pub made_command : Mark → Mark
made_command Command = Command
made_command Response = Response
made_command Absent = Command

unfoldable pub with_mark : Ax25Frame → Ax25Frame
with_mark f = record {
  source = f.source;
  destination = f.destination;
  route = f.route;
  route_count = f.route_count;
  command_or_response = made_command f.command_or_response;
  content = f.content;
}

-- a plain frame, with its info. Unused route places are no part of it
pub record Plain (m : Mode) (f : Ax25Frame) (info : List ℕ) : Type 0 where
  -- a mark of Command or Response
  pub mark : marked f.command_or_response ≡ true
  -- one of the kinds, `UnknownContent` excepted and in the long mode FRMR, with its sequence numbers below 8 or, in the long mode, 128, and
  -- a plain protocol identifier
  pub content : PlainContent m f.content
  -- callsign characters below 128, SSIDs up to 15, reserved bits up to 3
  pub destination : PlainAddress f.destination
  pub source : PlainAddress f.source
  pub repeaters : (i : ℕ) → i < f.route_count → PlainAddress (repeater_at f.route i).repeater
  -- at most eight repeaters
  pub eight : length f.route ≡ 8
  pub count : f.route_count ≤ 8
  -- a destination not starting with character 0
  pub starts : 0 < get_or f.destination.callsign 0 0
  -- info only in a kind that has it
  pub bare : has_info f.content ≡ false → info ≡ []
  pub octets : Octets info

-- place i of a route of n repeaters, as reading leaves it: an unused place is as in the default frame
unfoldable pub place_in_use : List RouteEntry → ℕ → ℕ → RouteEntry
place_in_use route n i = cond (ltb i n) (repeater_at route i) no_entry

unfoldable pub route_in_use : List RouteEntry → ℕ → List RouteEntry
route_in_use route n =
    place_in_use route n 0 ∷ place_in_use route n 1 ∷ place_in_use route n 2 ∷ place_in_use route n 3
    ∷ place_in_use route n 4 ∷ place_in_use route n 5 ∷ place_in_use route n 6 ∷ place_in_use route n 7 ∷ []

-- what is in use of a frame: two frames are the same where this is
unfoldable pub in_use : Ax25Frame → Ax25Frame
in_use f = record {
  source = f.source;
  destination = f.destination;
  route = route_in_use f.route f.route_count;
  route_count = f.route_count;
  command_or_response = f.command_or_response;
  content = f.content;
}
