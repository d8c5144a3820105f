-- Document 02, M-108, proved: old captures are read as they were.
use Prim.Native.Nat.{ℕ}
use mathlib.Core.Path.{◌≡◌, refl}
use mathlib.Core.List.{List, map}
use Rattle.octets.specs.First.{first}
use Rattle.control.specs.declared.Mode.{Mode}
use Rattle.protocol.specs.Pid.{among, pid_of}
use Rattle.address.specs.Address.{no_call}
use Rattle.group.specs.Group.{address_of, mark_of}
use Rattle.parse.specs.Content.{s_kind_of, s_of, ui_of, u_of, content_of}
use Rattle.frame.specs.Frame.{no_entry, no_route, simple_ui, default_frame}
use Rattle.decode.specs.Read.{parsed_at, entry_at, place_at, route_at, frame_at, refused_with, accepted_with, with_content, decode_field, decode}
use Rattle.old_captures.specs.Old.{decode_old}
use Rattle.old_captures.proofs.Laws.{as_before, as_decoded, without_ten}
use Rattle.demands.specs.Old.{OldCapture, captured, captures, as_read}

pub old_capture : (mode : Mode) (s : List ℕ) → OldCapture mode s (decode_old mode s)
old_capture mode s = record { before = as_before mode s; same = as_decoded mode s; never = without_ten mode s }

-- each gives its whole result
pub captures_read : map captured captures ≡ as_read
unfolding first among pid_of no_call address_of mark_of s_kind_of s_of ui_of u_of content_of no_entry no_route simple_ui default_frame parsed_at entry_at place_at route_at frame_at refused_with accepted_with with_content decode_field decode decode_old
captures_read = refl
