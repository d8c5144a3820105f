-- P1 to P13 compute: each gives its whole result.
use mathlib.Core.Path.{◌≡◌, refl}
use mathlib.Core.List.{map}
use Rattle.octets.specs.First.{first}
use Rattle.octets.specs.Same.{same}
use Rattle.protocol.specs.Pid.{among, pid_of}
use Rattle.address.specs.Address.{no_call}
use Rattle.group.specs.Group.{address_of, mark_of, ssid_octet, group_of}
use Rattle.control.specs.declared.Mode.TheVariants.{Short}
use Rattle.parse.specs.Content.{i_of, s_kind_of, s_of, ui_of, response_of, frmr_of, u_of, content_of}
use Rattle.frame.specs.Frame.{no_entry, no_route, simple_ui, default_frame}
use Rattle.decode.specs.Read.{parsed_at, entry_at, place_at, route_at, frame_at, refused_with, accepted_with, with_content, decode_field, decode}
use Rattle.frame.specs.Spell.{groups_of, address_field, spell}
use Rattle.spelling.specs.Canonical.{again, canonical}
use Rattle.respelling.specs.Reencode.{due}
use Rattle.demands.specs.Examples.{outcome, inputs, outcomes}

pub examples : map (outcome Short) inputs ≡ outcomes
unfolding first same among pid_of no_call address_of mark_of ssid_octet group_of i_of s_kind_of s_of ui_of response_of frmr_of u_of content_of no_entry no_route simple_ui default_frame parsed_at entry_at place_at route_at frame_at refused_with accepted_with with_content decode_field decode groups_of address_field spell again canonical due
examples = refl
