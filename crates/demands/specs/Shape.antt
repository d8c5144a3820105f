-- What document 01 says of the octets that a plain frame spells, and document 02 of the PID's.
use Rattle.std.specs.Prelude.{ℕ, ◌+◌, ◌*◌, ◌<◌, ◌≡◌, true, false, not, List, get_or}
use Rattle.octets.specs.Octet.{bit}
use Rattle.protocol.specs.Pid.{octet_of}
use Rattle.group.specs.Group.{mark_of}
use Rattle.control.specs.Mode.{controls}
use Rattle.control.specs.declared.Mode.{Mode}
use Rattle.content.specs.declared.Information.{Information}
use Rattle.content.specs.declared.UnnumberedInformation.{UnnumberedInformation}
use Rattle.content.specs.declared.FrameContent.TheVariants as kind
use Rattle.decode.specs.Read.{group_at}
use Rattle.frame.specs.Spell.{spell}
use Rattle.frame.specs.declared.Ax25Frame.{Ax25Frame}

pub record Shape (m : Mode) (f : Ax25Frame) (info : List ℕ) : Type 0 where
  -- every address octet but the last is even
  pub even : (k : ℕ) → k < 13 + 7 * f.route_count → bit 0 (get_or (spell m f info) k 0) ≡ false
  pub last : bit 0 (get_or (spell m f info) (13 + 7 * f.route_count) 0) ≡ true
  -- exactly one of the first two marks is set
  pub marks : mark_of (group_at (spell m f info) 7) ≡ not (mark_of (group_at (spell m f info) 0))
  -- the PID octet, after the control field, is the frame's own, of the layer 3 class too (document 02, M-105)
  pub i_pid : (k : Information) → f.content ≡ kind.Information k
      → get_or (spell m f info) (14 + 7 * f.route_count + controls m) 0 ≡ octet_of k.pid
  pub ui_pid : (k : UnnumberedInformation) → f.content ≡ kind.UnnumberedInformation k
      → get_or (spell m f info) (15 + 7 * f.route_count) 0 ≡ octet_of k.pid
