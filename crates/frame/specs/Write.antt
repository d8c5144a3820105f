-- Writing a frame: document 01's numbers 21 to 24 in their order, document 02's 11 (M-109) before 23 and 25 (M-105) before 24, and the
-- octets.
use Rattle.std.specs.Prelude.{ℕ, zero, suc, ◌≤◌, ◌≡◌, Bool, true, false, cond, not, ◌&&◌, Result, Ok, Err, List, ltb, length}
use Rattle.octets.specs.Outcome.{giving, octets_by}
use Rattle.address.specs.Address.{encodable}
use Rattle.content.specs.Refused.{long_frmr, stray_info, stray_pid}
use Rattle.content.specs.declared.FrameContent.{FrameContent}
use Rattle.control.specs.declared.Mode.{Mode}
use Rattle.frame.specs.Spell.{repeater_at, spell}
use Rattle.frame.specs.declared.RouteEntry.{RouteEntry}
use Rattle.frame.specs.declared.Ax25Frame.{Ax25Frame}
use Rattle.frame.specs.declared.WriteError.{WriteError}
use Rattle.frame.specs.declared.WriteError.TheVariants.{RouteTooLong, NotEncodable, FrameRejectInLongMode, InfoNotAllowed, PidOutsideClass, NoRoom}

-- the repeater of an entry can be written
abbrev pub entry_encodable : RouteEntry → Bool
entry_encodable e = encodable e.repeater

-- the first n repeaters can be written
unfoldable pub route_encodable : List RouteEntry → ℕ → Bool
route_encodable route zero = true
route_encodable route (suc n) = route_encodable route n && encodable (repeater_at route n).repeater

-- every address in use can be written; unused places are not looked at
unfoldable pub frame_encodable : Ax25Frame → Bool
frame_encodable f = encodable f.destination && encodable f.source && route_encodable f.route f.route_count

-- the answer from 11 on: of the content, the length of its info, the octets that all of the frame takes, and the room
unfoldable pub content_answer : Mode → FrameContent → ℕ → ℕ → ℕ → Result Unit WriteError
content_answer m k info whole room =
    cond (long_frmr m k) (Err FrameRejectInLongMode)
    (cond (stray_info k info) (Err InfoNotAllowed)
    (cond (stray_pid k) (Err PidOutsideClass)
    (cond (ltb room whole) (Err NoRoom)
    (Ok tt))))

-- the answer to writing a frame with its info into so much room. The Rust has no such refusals (docs/DIFFERENCES.md, B3 and B4)
unfoldable pub write_answer : Mode → Ax25Frame → List ℕ → ℕ → Result Unit WriteError
write_answer m f info room =
    cond (ltb 8 f.route_count) (Err RouteTooLong)
    (cond (not (frame_encodable f)) (Err NotEncodable)
    (content_answer m f.content (length info) (length (spell m f info)) room))

-- what writing takes: none of the six refusals holds
pub record Taken (m : Mode) (f : Ax25Frame) (i : List ℕ) (n : ℕ) : Type 0 where
  pub count : f.route_count ≤ 8
  pub addresses : frame_encodable f ≡ true
  pub known : long_frmr m f.content ≡ false
  pub info : stray_info f.content (length i) ≡ false
  pub pid : stray_pid f.content ≡ false
  pub room : length (spell m f i) ≤ n

-- the octets that are written: what the frame spells, and none at a refusal
unfoldable pub octets_written : Mode → Ax25Frame → List ℕ → ℕ → List ℕ
octets_written m f info room = octets_by (write_answer m f info room) (spell m f info)

-- how many octets of the output are the frame, or the refusal
unfoldable pub written : Mode → Ax25Frame → List ℕ → ℕ → Result ℕ WriteError
written m f info room = giving (write_answer m f info room) (length (spell m f info))
