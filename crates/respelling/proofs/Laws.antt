-- What re-encoding writes: the facts that the demands state, and those that the functions' proofs share.
use Prim.Native.Nat.{ℕ, ◌+◌, ◌-◌, ◌*◌, ◌≤◌, ◌<◌}
use mathlib.Core.Path.{◌≡◌, refl, ◌∙◌}
use mathlib.Core.Bool.{Bool, true, false, not}
use mathlib.Core.List.{List, []}
use native.Mathlib.Omega.{arith}
use borrow.Author.Tests.{le-ltb, lt-ltb}
use lib.Dec.{eqb, ltb}
use lib.ListN.{length, get_or}
use Rattle.octets.specs.Octet.{Octets}
use Rattle.octets.specs.Splice.{splice}
use Rattle.octets.specs.Outcome.{number_by}
use Rattle.group.specs.Group.{mark_set, group_of}
use Rattle.placing.specs.Put.{respelled}
use Rattle.placing.proofs.Laws.{respelled_in}
use Rattle.content.specs.declared.FrameContent.{FrameContent}
use Rattle.control.specs.declared.Mode.{Mode}
use Rattle.decode.specs.Answer.{is_accepted}
use Rattle.decode.specs.Read.{route_at, command_of, decode, info_in}
use Rattle.decode.specs.Outline.{outline_of}
use Rattle.decode.specs.declared.Outline.{Outline}
use Rattle.decode.proofs.Read.{answer_accepted}
use Rattle.decode.proofs.Whole.{outlined}
use Rattle.frame.specs.Spell.{repeater_at, groups_of, destination_mark, address_field, spell}
use Rattle.frame.specs.Write.{Taken}
use Rattle.frame.proofs.Write.{spell-length, marks_differ, field_put, accepted_taken}
use Rattle.grammar.specs.Kept.{kept_of}
use Rattle.grammar.proofs.Marks.{parsed_is, route, place_read}
use Rattle.grammar.proofs.Parts.{parts}
use Rattle.grammar.proofs.Plain.{read, inside, info-length}
use Rattle.grammar.proofs.Respell.{mark-spell, decoded-written}
use Rattle.spelling.specs.Canonical.{again}
use Rattle.respelling.specs.Reencode.{due, reencoded, reencode, error_number, report_of}
use Rattle.respelling.specs.declared.ReencodeError.{ReencodeError}
use Rattle.respelling.specs.declared.ReencodeError.TheVariants.{Refused, NoRoom}
use Rattle.decode.specs.declared.DecodeError.{DecodeError}
use Rattle.std.specs.Prelude.{Result, Ok, Err}

-- the number that the calls give is that of the report
pub reported_is : (r : Result ℕ ReencodeError) → number_by error_number r ≡ (report_of r).number
reported_is (Ok n) = refl
reported_is (Err e) = refl

-- what is due, by the decode
pub due-accepted : (mode : Mode) (s : List ℕ) → is_accepted (decode mode s).answer ≡ true → due mode s ≡ spell mode (decode mode s).frame (info_in s (decode mode s))
unfolding due again
due-accepted mode s e = simp e

pub due-refused : (mode : Mode) (s : List ℕ) → is_accepted (decode mode s).answer ≡ false → due mode s ≡ []
unfolding due
due-refused mode s e = simp e

-- and its length, by the outline and the content
pub due-length : (mode : Mode) (s : List ℕ) (b : Outline) (k : FrameContent) (n : ℕ) → Octets s → Ok b ≡ outline_of mode s
    → k ≡ (decode mode s).frame.content → n ≡ kept_of mode k (length s - (b.end + 1))
    → 14 + 7 * b.route_count + n ≡ length (due mode s)
due-length mode s b k n o p q r =
    let t = outlined mode s b p in
    let e = t.accepted in
    let d = parts mode s o e in
    let l = spell-length mode (decode mode s).frame (info_in s (decode mode s)) in
    rw (r, q, t.route_count, t.end, due-accepted mode s e) (omega (arith, info-length s (decode mode s) (inside mode s e), d.before, d.carried))

-- a refused input is answered with its decode, and nothing is written
pub refused_answer : (mode : Mode) (s : List ℕ) (room : ℕ) (r : DecodeError) → (decode mode s).answer ≡ Err r
    → (reencode mode s room ≡ Err (Refused r)) × (reencoded mode s room ≡ [])
unfolding reencode reencoded
refused_answer mode s room r e =
    let none : ltb room 0 ≡ false = le-ltb room 0 (omega arith) in
    let nothing = due-refused mode s (rw e refl) in
    (rw e refl, rw (nothing, none) refl)

-- re-encoding never needs more room than the input's length
pub due_fits : (mode : Mode) (s : List ℕ) → Octets s → is_accepted (decode mode s).answer ≡ true → length (due mode s) ≤ length s
due_fits mode s o e =
    rw (due-accepted mode s e, ← mark-spell mode (decode mode s).frame (info_in s (decode mode s))) (read mode s o e).fits

-- what is due of an accepted input is its respelling; in any room: 24 and nothing where it is too little, else the whole
pub due-again : (mode : Mode) (s : List ℕ) → is_accepted (decode mode s).answer ≡ true → due mode s ≡ again mode s
unfolding due
due-again mode s e = simp e

pub again-short : (mode : Mode) (s : List ℕ) (room : ℕ) → is_accepted (decode mode s).answer ≡ true → room < length (again mode s)
    → (reencode mode s room ≡ Err NoRoom) × (reencoded mode s room ≡ [])
unfolding reencode reencoded
again-short mode s room e h =
    let short : ltb room (length (again mode s)) ≡ true = lt-ltb room (length (again mode s)) h in
    (rw (answer_accepted (decode mode s).answer e, due-again mode s e, short) refl, rw (due-again mode s e, short) refl)

pub again_fits : (mode : Mode) (s : List ℕ) (room : ℕ) → is_accepted (decode mode s).answer ≡ true → length (again mode s) ≤ room
    → (reencode mode s room ≡ Ok (length (again mode s))) × (reencoded mode s room ≡ again mode s)
unfolding reencode reencoded
again_fits mode s room e h =
    let fits : ltb room (length (again mode s)) ≡ false = le-ltb room (length (again mode s)) h in
    (rw (answer_accepted (decode mode s).answer e, due-again mode s e, fits) refl, rw (due-again mode s e, fits) refl)

-- and written where there is room for the input's length
pub again-room : (mode : Mode) (s : List ℕ) (room : ℕ) → Octets s → is_accepted (decode mode s).answer ≡ true → length s ≤ room
    → (reencode mode s room ≡ Ok (length (again mode s))) × (reencoded mode s room ≡ again mode s)
again-room mode s room o e h =
    let fits = rw (due-again mode s e) at (due_fits mode s o e) in
    again_fits mode s room e (omega (arith, fits, h))

-- what is due is taken by writing, where there is room
pub due_taken : (mode : Mode) (s : List ℕ) (room : ℕ) → Octets s → is_accepted (decode mode s).answer ≡ true → length (due mode s) ≤ room
    → Taken mode (decode mode s).frame (info_in s (decode mode s)) room
due_taken mode s room o e h =
    accepted_taken mode _ _ _ (decoded-written mode s room o e ∙ rw (le-ltb _ _ (rw (due-accepted mode s e) at h)) refl)

-- a repeater's group, spelled again from its octets
pub repeater-again : (s : List ℕ) (at n i : ℕ) (e : Bool) → i < n → n ≤ 8 → at + 7 * n ≤ length s
    → respelled s (at + 7 * i) (mark_set (get_or s (at + 7 * i + 6) 0)) e
    ≡ group_of (repeater_at (route_at s at n) i).repeater (repeater_at (route_at s at n) i).has_repeated e
repeater-again s at n i e h l f =
    let p = place_read s at n i h l in
    rw (respelled_in s (at + 7 * i) _ e (omega arith), p.0, p.1, parsed_is) refl

-- and with those of destination and source the address field
pub field-again : (mode : Mode) (s l : List ℕ) → Octets s → is_accepted (decode mode s).answer ≡ true → 14 + 7 * (decode mode s).frame.route_count ≤ length l
    → let n = (decode mode s).frame.route_count in
    let m = destination_mark (command_of (mark_set (get_or s 6 0)) (mark_set (get_or s 13 0))) in
    splice
    (splice (splice l 0 (respelled s 0 m false)) 7 (respelled s 7 (not m) (eqb n 0)))
    14 (groups_of (route_at s 14 n) n n)
    ≡ splice l 0 (address_field (decode mode s).frame)
field-again mode s l o e h =
    let d = parts mode s o e in
    let r = route mode s e in
    rw (respelled_in s 0 _ false (omega (arith, r.before, r.end_in)), respelled_in s 7 _ _ (omega (arith, r.before, r.end_in)), ← d.destination, ← d.source, ← d.mark, ← r.read, ← marks_differ _)
    (field_put l (decode mode s).frame h)
