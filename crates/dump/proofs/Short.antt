-- How long the texts are at most: 512 octets hold the whole.
use Prim.Native.Nat.{ℕ, zero, suc, ◌+◌, ◌*◌, ◌≤◌, ◌<◌}
use mathlib.Core.Path.{◌≡◌}
use mathlib.Core.Bool.{Bool, cond}
use mathlib.Core.List.{List, [], ◌∷◌, ◌++◌}
use native.Mathlib.Omega.{arith}
use lib.Dec.{eqb, ltb}
use lib.ListN.{length, length-append}
use Rattle.octets.specs.Octet.{Octets}
use Rattle.octets.proofs.Choice.{by, either}
use Rattle.address.specs.Address.{PlainAddress}
use Rattle.printing.specs.Print.{trimmed}
use Rattle.address.specs.declared.Address.{Address}
use Rattle.printing.proofs.Laws.{used_le, trimmed-length}
use Rattle.content.specs.declared.FrameContent.{FrameContent}
use Rattle.control.specs.declared.Mode.TheVariants.{Short}
use Rattle.decode.specs.Answer.{is_accepted, error_number}
use Rattle.decode.specs.Read.{decode, outcome}
use Rattle.decode.proofs.Read.{answer_accepted, answer_refused}
use Rattle.frame.specs.Spell.{repeater_at}
use Rattle.frame.specs.declared.Ax25Frame.{Ax25Frame}
use Rattle.decode.specs.declared.DecodeError.{DecodeError}
use Rattle.decode.specs.declared.DecodeError.TheVariants as error
use Rattle.decode.specs.declared.Decoded.{Decoded}
use Rattle.frame.specs.declared.RouteEntry.{RouteEntry}
use Rattle.grammar.proofs.Plain.{Stations, stations, inside}
use Rattle.reason.specs.Reason.{reason_of}
use Rattle.reason.specs.declared.Reason.{Reason}
use Rattle.spelling.specs.Canonical.{canonical}
use Rattle.words.specs.Ascii.{ascii}
use Rattle.words.specs.Words.{decimal, character, mark_text, kind_text, control_text, pid_text, yes_no, reason_text}
use Rattle.words.proofs.Laws.{decimal-short, character-short, mark-short, kind-short, pid-short, yes_no-short, reason-short}
use Rattle.dump.specs.Text.{characters, ssid_text, address_text, entry_text, route_text}
use Rattle.dump.specs.Dump.{station_lines, content_lines, spelling_lines, frame_text, detail_text, refusal_text, decoded_text, dump_text}

characters-short : (s : List ℕ) → length (characters s) ≤ 3 * length s
unfolding characters
characters-short [] = omega arith
characters-short (c ∷ s) = omega (arith, length-append (character c) (characters s), character-short c, characters-short s)

ssid-short : (s : ℕ) → length (ssid_text s) ≤ 6
unfolding ssid_text
ssid-short s =
    either (λ (t : List ℕ). length t ≤ 6) (eqb s 0) (λ e. omega arith) (λ e. omega (arith, length-append (ascii "-") (decimal s), decimal-short s))

address-short : (a : Address) → PlainAddress a → length (address_text a) ≤ 24
unfolding address_text
address-short a p =
    omega (arith, p.six, length-append (characters (trimmed a.callsign)) (ssid_text a.ssid), characters-short (trimmed a.callsign), trimmed-length a.callsign, used_le a.callsign, ssid-short a.ssid)

entry-short : (e : RouteEntry) → PlainAddress e.repeater → length (entry_text e) ≤ 25
unfolding entry_text
entry-short e p =
    let star : length (cond e.has_repeated (ascii "*") []) ≤ 1 =
    either (λ (t : List ℕ). length t ≤ 1) e.has_repeated (λ q. omega arith) (λ q. omega arith) in
    omega (arith, length-append (address_text e.repeater) (cond e.has_repeated (ascii "*") []), address-short e.repeater p, star)

route-short : (route : List RouteEntry) (n : ℕ) → ((i : ℕ) → i < n → PlainAddress (repeater_at route i).repeater) → length (route_text route n) ≤ 26 * n
unfolding route_text
route-short route zero p = omega arith
route-short route (suc n) p =
    let c : List ℕ = cond (eqb n 0) [] (ascii ",") in
    let e : List ℕ = entry_text (repeater_at route n) in
    let one : length c ≤ 1 = either (λ (t : List ℕ). length t ≤ 1) (eqb n 0) (λ q. omega arith) (λ q. omega arith) in
    omega (arith, length-append (route_text route n) (c ++ e), length-append c e, route-short route n (λ i h. p i (omega (arith, h))), entry-short (repeater_at route n) (p n (omega arith)), one)

-- a line is its key, its value and one more
line-long : (key value : List ℕ) → length (key ++ (value ++ ascii "\n")) ≡ length key + length value + 1
line-long key value = omega (arith, length-append key (value ++ ascii "\n"), length-append value (ascii "\n"))

pub contents-short : (k : FrameContent) → length (content_lines k) ≤ 33
unfolding content_lines
contents-short k =
    let a : List ℕ = ascii "kind=" ++ (kind_text k ++ ascii "\n") in
    let b : List ℕ = ascii "control=" ++ (control_text k ++ ascii "\n") in
    let c : List ℕ = ascii "pid=" ++ (pid_text k ++ ascii "\n") in
    omega (arith, length-append a (b ++ c), length-append b c, line-long (ascii "kind=") (kind_text k), line-long (ascii "control=") (control_text k), line-long (ascii "pid=") (pid_text k), kind-short k, pid-short k)

stations-short : (f : Ax25Frame) → Stations f → f.route_count ≤ 8 → length (station_lines f) ≤ 298
unfolding station_lines
stations-short f p h =
    let a : List ℕ = ascii "destination=" ++ (address_text f.destination ++ ascii "\n") in
    let b : List ℕ = ascii "source=" ++ (address_text f.source ++ ascii "\n") in
    let c : List ℕ = ascii "route=" ++ (route_text f.route f.route_count ++ ascii "\n") in
    let d : List ℕ = ascii "mark=" ++ (mark_text f.command_or_response ++ ascii "\n") in
    omega (arith, h, length-append a (b ++ (c ++ d)), length-append b (c ++ d), length-append c d, line-long (ascii "destination=") (address_text f.destination), line-long (ascii "source=") (address_text f.source), line-long (ascii "route=") (route_text f.route f.route_count), line-long (ascii "mark=") (mark_text f.command_or_response), address-short f.destination p.destination, address-short f.source p.source, route-short f.route f.route_count p.repeaters, mark-short f.command_or_response)

spellings-short : (c : Bool) (r : Reason) → length (spelling_lines c r) ≤ 30
unfolding spelling_lines
spellings-short c r =
    let a : List ℕ = ascii "canonical=" ++ (yes_no c ++ ascii "\n") in
    let b : List ℕ = ascii "reason=" ++ (reason_text r ++ ascii "\n") in
    omega (arith, length-append a b, line-long (ascii "canonical=") (yes_no c), line-long (ascii "reason=") (reason_text r), yes_no-short c, reason-short r)

frame-short : (d : Decoded) (c : Bool) (r : Reason) → Stations d.frame → d.frame.route_count ≤ 8 → length (frame_text d c r) ≤ 512
unfolding frame_text
frame-short d c r p h =
    let a : List ℕ = ascii "answer=" ++ (decimal 0 ++ ascii "\n") in
    let f : List ℕ = station_lines d.frame in
    let k : List ℕ = content_lines d.frame.content in
    let i : List ℕ = ascii "info_length=" ++ (decimal d.info_len ++ ascii "\n") in
    let y : List ℕ = spelling_lines c r in
    omega (arith, length-append a (f ++ (k ++ (i ++ y))), length-append f (k ++ (i ++ y)), length-append k (i ++ y), length-append i y, line-long (ascii "answer=") (decimal 0), decimal-short 0, stations-short d.frame p h, contents-short d.frame.content, line-long (ascii "info_length=") (decimal d.info_len), decimal-short d.info_len, spellings-short c r)

-- a line with a number
number_short : (key : List ℕ) (n : ℕ) → length key ≤ 12 → length (key ++ (decimal n ++ ascii "\n")) ≤ 18
number_short key n h = omega (arith, h, line-long key (decimal n), decimal-short n)

detail-short : (a : DecodeError) → length (detail_text a) ≤ 36
detail-short error.OnlyNullBytes = omega arith
detail-short error.NoEndToAddressField = omega arith
detail-short (error.AddressFieldTooShort start end) =
    let a : List ℕ = ascii "start=" ++ (decimal start ++ ascii "\n") in
    let b : List ℕ = ascii "end=" ++ (decimal end ++ ascii "\n") in
    omega (arith, length-append a b, number_short (ascii "start=") start (omega arith), number_short (ascii "end=") end (omega arith))
detail-short (error.FrameTooShort len) = omega (arith, number_short (ascii "length=") len (omega arith))
detail-short error.MissingPidField = omega arith
detail-short error.UnrecognisedUFieldType = omega arith
detail-short error.WrongSizeFrmrInfo = omega arith
detail-short error.TooManyRepeaters = omega arith
detail-short error.LeadingNullBytes = omega arith
detail-short error.FrameRejectInLongMode = omega arith
detail-short error.MissingControlOctet = omega arith

refusal-short : (a : DecodeError) → length (refusal_text a) ≤ 512
unfolding refusal_text
refusal-short a =
    let n : List ℕ = ascii "answer=" ++ (decimal (error_number a) ++ ascii "\n") in
    omega (arith, length-append n (detail_text a), number_short (ascii "answer=") (error_number a) (omega arith), detail-short a)

pub decoded-short : (s : List ℕ) → Octets s → (c : Bool) (r : Reason) → length (decoded_text (outcome (decode Short s)) c r) ≤ 512
unfolding decoded_text
decoded-short s o c r =
    by (is_accepted (decode Short s).answer)
    (λ e. rw (answer_accepted (decode Short s).answer e) (frame-short _ c r (stations Short s o e) (inside Short s e).few))
    (λ e. let p = answer_refused (decode Short s).answer e in rw p.1 (refusal-short p.0))

pub fifty-short : length (ascii "answer=" ++ (decimal 50 ++ ascii "\n")) ≤ 512
fifty-short = omega (arith, number_short (ascii "answer=") 50 (omega arith))

-- room that always suffices
pub dump-short : (s : List ℕ) → Octets s → length (dump_text s) ≤ 512
unfolding dump_text
dump-short s o =
    either (λ (t : List ℕ). length t ≤ 512) (ltb 4096 (length s)) (λ e. fifty-short) (λ e. decoded-short s o (canonical Short s) (reason_of Short s))
