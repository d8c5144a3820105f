-- Document 02, M-111, proved; the settled cases compute.
use Prim.Native.Nat.{ℕ}
use mathlib.Core.Path.{◌≡◌, refl, sym, subst}
use mathlib.Core.List.{List, map}
use lib.ListN.{get_or}
use Rattle.octets.specs.First.{first}
use Rattle.octets.specs.Same.{same}
use Rattle.protocol.specs.Pid.{among, pid_of}
use Rattle.address.specs.Address.{no_call}
use Rattle.group.specs.Group.{address_of, mark_of, ssid_octet, group_of}
use Rattle.control.specs.declared.Mode.{Mode}
use Rattle.control.specs.declared.Mode.TheVariants.{Short, Long}
use Rattle.parse.specs.Content.{s_kind_of, s_of, ui_of, u_of, content_of}
use Rattle.frame.specs.Frame.{no_entry, no_route, simple_ui, default_frame}
use Rattle.frame.specs.Spell.{groups_of, address_field, spell}
use Rattle.decode.specs.Read.{parsed_at, entry_at, place_at, route_at, frame_at, refused_with, accepted_with, with_content, decode_field, decode}
use Rattle.spelling.specs.Canonical.{again, canonical}
use Rattle.captures.specs.Capture.{answered, outside, is_inside, filled, filled_all}
use Rattle.captures.specs.declared.CaptureRecord.{CaptureRecord}
use Rattle.captures.proofs.Laws.{filled_place, filled_inside, filled-outside, filled-named, filled-length, filled_at}
use Rattle.demands.proofs.Numbers.{decoding}
use Rattle.demands.specs.Captures.{Ended, AllEnded, day, asked, Case, short_cases, long_cases}

pub ended : (m : Mode) (s : List ℕ) (r : CaptureRecord) → Ended m s r (filled m s r)
ended m s r = record {
  start = (filled_place m s r).0;
  long = (filled_place m s r).1;
  number = λ h. let is = (filled_inside m s r h).0 in (is, (decoding m _ _).0 (sym is));
  canonical = λ h. (filled_inside m s r h).1;
  kind = λ h. (filled_inside m s r h).2;
  outside = filled-outside m s r;
  named = filled-named m s r;
}

pub all_ended_lem : (m : Mode) (s : List ℕ) (rs : List CaptureRecord) → AllEnded m s rs (filled_all m s rs)
all_ended_lem m s rs = (
  filled-length m s rs,
  (λ i d h. subst (λ (r : CaptureRecord). Ended m s (get_or rs i d) r) (sym (filled_at m s rs i d h)) (ended m s (get_or rs i d))),
)

-- what the cases say that the records are to be
abbrev due : Case → CaptureRecord
due c = record { start = c.start; length = c.long; number = c.number; canonical = c.canonical; kind = c.kind }

pub short-cases : filled_all Short day (map (λ (c : Case). asked c.start c.long) short_cases) ≡ map due short_cases
unfolding first same among pid_of no_call address_of mark_of ssid_octet group_of s_kind_of s_of ui_of u_of content_of no_entry no_route simple_ui default_frame parsed_at entry_at place_at route_at frame_at refused_with accepted_with with_content decode_field decode groups_of address_field spell again canonical answered outside is_inside filled filled_all
short-cases = refl

pub long-cases : filled_all Long day (map (λ (c : Case). asked c.start c.long) long_cases) ≡ map due long_cases
unfolding first same among pid_of no_call address_of mark_of ssid_octet group_of s_kind_of s_of ui_of u_of content_of no_entry no_route simple_ui default_frame parsed_at entry_at place_at route_at frame_at refused_with accepted_with with_content decode_field decode groups_of address_field spell again canonical answered outside is_inside filled filled_all
long-cases = refl
