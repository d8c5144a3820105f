-- Demand 1: document 01's table of numbers, a row a line, each condition in the table's words, in the order that it gives; 10, 11, 12
-- and 25 are document 02's (M-108, M-109, M-105), and so is that 22 looks at reserved bits (M-106).
use Rattle.std.specs.Prelude.{ℕ, ◌+◌, not, List, [], ◌∷◌, ltb, length, drop}
use Rattle.address.specs.Address.{encodable}
use Rattle.text.specs.Text.{high, many_hyphens, bad_ssid, empty, long, strange, wide, callsign_text, ssid_value}
use Rattle.printing.specs.Print.{short}
use Rattle.address.specs.declared.Address.{Address}
use Rattle.content.specs.Refused.{long_frmr, stray_info, stray_pid}
use Rattle.control.specs.declared.Mode.{Mode}
use Rattle.parse.specs.Numbers.{lacks_control, lacks_pid, strange_u, frmr_in_long, wrong_frmr}
use Rattle.decode.specs.Read.{end_of}
use Rattle.decode.specs.Numbers.{no_start, leading_null, no_end, short_field, no_content, many_repeaters}
use Rattle.frame.specs.Spell.{spell}
use Rattle.frame.specs.Write.{frame_encodable}
use Rattle.frame.specs.declared.Ax25Frame.{Ax25Frame}
use Rattle.octets.specs.Table.{Table}

-- the content: what stands after the end
abbrev content : List ℕ → List ℕ
content s = drop (end_of s + 1) s

-- decoding
abbrev pub decode_table : Mode → List ℕ → Table
decode_table m s =
    (1, no_start s) ∷ (10, leading_null s) ∷ (2, no_end s) ∷ (3, short_field s) ∷ (4, no_content s) ∷ (9, many_repeaters s)
    ∷ (12, lacks_control m (content s)) ∷ (5, lacks_pid m (content s)) ∷ (7, strange_u (content s)) ∷ (11, frmr_in_long m (content s))
    ∷ (8, wrong_frmr m (content s)) ∷ []

-- writing a frame with its info into so much room
abbrev pub write_table : Mode → Ax25Frame → List ℕ → ℕ → Table
write_table m f info room =
    (21, ltb 8 f.route_count) ∷ (22, not (frame_encodable f)) ∷ (11, long_frmr m f.content) ∷ (23, stray_info f.content (length info))
    ∷ (25, stray_pid f.content) ∷ (24, ltb room (length (spell m f info))) ∷ []

-- printing an address into so much room
abbrev pub print_table : Address → ℕ → Table
print_table a room = (22, not (encodable a)) ∷ (24, short a room) ∷ []

-- a callsign and an SSID
abbrev pub parts_table : List ℕ → ℕ → Table
parts_table c ssid = (35, high c) ∷ (32, empty c) ∷ (31, long c) ∷ (32, strange c) ∷ (34, wide ssid) ∷ []

-- text
abbrev pub text_table : List ℕ → Table
text_table t =
    (35, high t) ∷ (32, many_hyphens t) ∷ (33, bad_ssid t)
    ∷ (32, empty (callsign_text t)) ∷ (31, long (callsign_text t)) ∷ (32, strange (callsign_text t)) ∷ (34, wide (ssid_value t)) ∷ []
