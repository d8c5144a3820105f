-- Each number of reading by the octets: it is that of the first condition that holds.
use Prim.Native.Nat.{ℕ, suc, ◌+◌, ◌-◌}
use mathlib.Core.Path.{◌≡◌, refl, ap, sym, ◌∙◌}
use mathlib.Core.Bool.{Bool, true, false, false≢true, cond, not, ◌&&◌, ◌||◌}
use mathlib.Core.List.{List, [], ◌∷◌}
use native.Mathlib.Omega.{arith}
use borrow.Author.Tests.{eqb-true, ne_eqb, ltb-true, ltb-false}
use Rattle.std.specs.Prelude.{Result, Ok, Err}
use lib.Dec.{eqb, ltb, eqb-suc-suc}
use lib.ListN.{length, get_or, drop}
use Rattle.octets.specs.Octet.{field}
use Rattle.octets.specs.First.{first}
use Rattle.octets.specs.Count.{count}
use Rattle.octets.specs.Outcome.{number_by, measured}
use Rattle.octets.proofs.Choice.{by}
use Rattle.octets.proofs.Count.{count_le}
use Rattle.escapes.specs.Escape.{fend, fesc, tfend, tfesc}
use Rattle.kiss.specs.Packet.{last_port}
use Rattle.kiss_reading.specs.Answer.{number_of, octets_given}
use Rattle.kiss_reading.specs.Steps.{plus}
use Rattle.kiss_reading.specs.Read.{more, heard, on_port, typed, type_escaped, opened, read_packet, read_into}
use Rattle.demands_kiss.specs.Numbers.{is_fend, is_fesc, up_to, between, follows, stray, type_octet, no_opening, nothing, stray_type, not_data, port_over, stray_data, not_closed, short}
use Rattle.kiss_reading.specs.declared.KissError.{KissError}
use Rattle.kiss_reading.specs.declared.KissError.TheVariants.{NoOpening, Empty, BadEscape, NotData, PortTooHigh, NoClosing}
use Rattle.kiss_reading.proofs.Judged.{more_measured, measured-refused, measured_ok, typed_command, typed_port, typed_data, on-accepted, into-refused, into-short, into_fits}
use Rattle.demands_kiss.proofs.Spelling.{heard_close, heard-plain, heard_last, heard-tfend, heard-tfesc, heard-stray}

-- ---- up to the next C0
up_close : (x : ℕ) (l : List ℕ) → is_fend x ≡ true → up_to (x ∷ l) ≡ []
unfolding first
up_close x l f = rw f refl

up_more : (x : ℕ) (l : List ℕ) → is_fend x ≡ false → up_to (x ∷ l) ≡ x ∷ up_to l
unfolding first
up_more x l f = rw f refl

stray-plain : (x : ℕ) (l : List ℕ) → is_fesc x ≡ false → stray (x ∷ l) ≡ stray l
unfolding stray
stray-plain x l e = rw e refl

stray_here : (x : ℕ) (l : List ℕ) → is_fesc x ≡ true → follows l ≡ false → stray (x ∷ l) ≡ true
unfolding stray
stray_here x l e f = rw (e, f) refl

count-plain : (x : ℕ) (l : List ℕ) → is_fesc x ≡ false → count is_fesc (x ∷ l) ≡ count is_fesc l
unfolding count
count-plain x l e = rw e refl

-- ---- the data
-- how much is heard, by the octets up to the next C0
abbrev heard_by : List ℕ → Result ℕ KissError
heard_by l =
    cond (stray (up_to l)) (Err BadEscape)
    (cond (eqb (length l) (suc (length (up_to l)))) (Ok (length (up_to l) - count is_fesc (up_to l))) (Err NoClosing))

abbrev Told : List ℕ → Type 0
Told l = measured (heard false l) ≡ heard_by l

-- a stray DB
told-stray : (l : List ℕ) → heard false l ≡ Err BadEscape → stray (up_to l) ≡ true → Told l
told-stray l h e = rw (h, e) refl

-- one octet of data more
one_more : (s c : Bool) (n m : ℕ) → m ≡ 1 + n
    → plus 1 (cond s (Err BadEscape) (cond c (Ok n) (Err NoClosing))) ≡ cond s (Err BadEscape) (cond c (Ok m) (Err NoClosing))
one_more true c n m e = refl
one_more false true n m e = ap (λ (k : ℕ). Ok k) (sym e)
one_more false false n m e = refl

told-plain : (x : ℕ) (l : List ℕ) → is_fend x ≡ false → is_fesc x ≡ false → Told l → Told (x ∷ l)
told-plain x l f e t =
    let u : List ℕ = up_to l in
    rw (heard-plain x l f e, more_measured x (heard false l), t, up_more x l f, stray-plain x u e, count-plain x u e, eqb-suc-suc (length l) (suc (length u)))
    (one_more (stray u) (eqb (length l) (suc (length u))) _ _ (omega (arith, count_le is_fesc u)))

-- an escape
told_two : (x y b : ℕ) (l : List ℕ) → is_fend x ≡ false → is_fesc x ≡ true → is_fend y ≡ false → is_fesc y ≡ false → (eqb y tfend || eqb y tfesc) ≡ true
    → heard false (x ∷ (y ∷ l)) ≡ more b (heard false l) → Told l → Told (x ∷ (y ∷ l))
unfolding stray count
told_two x y b l f e g d a h t =
    let u : List ℕ = up_to l in
    let up : up_to (x ∷ (y ∷ l)) ≡ x ∷ (y ∷ u) = up_more x (y ∷ l) f ∙ ap (λ (z : List ℕ). x ∷ z) (up_more y l g) in
    let whole : stray (x ∷ (y ∷ u)) ≡ stray u = rw (e, a, d) refl in
    let many : count is_fesc (x ∷ (y ∷ u)) ≡ suc (count is_fesc u) = rw (e, d) refl in
    let ends : eqb (suc (suc (length l))) (suc (suc (suc (length u)))) ≡ eqb (length l) (suc (length u)) =
    eqb-suc-suc (suc (length l)) (suc (suc (length u))) ∙ eqb-suc-suc (length l) (suc (length u)) in
    rw (h, more_measured b (heard false l), t, up, whole, many, ends)
    (one_more (stray u) (eqb (length l) (suc (length u))) _ _ (omega (arith, count_le is_fesc u)))

-- a DB that is none: what follows it up to the next C0 does not start with DC or DD
not_behind : (y : ℕ) (l : List ℕ) → eqb y tfend ≡ false → eqb y tfesc ≡ false → follows (up_to (y ∷ l)) ≡ false
not_behind y l a b =
    by (is_fend y)
    (λ f. rw (up_close y l f) refl)
    (λ f. rw (up_more y l f, a, b) refl)

told : (l : List ℕ) → Told l
unfolding heard first stray count
told [] = refl
told (x ∷ []) =
    by (is_fend x)
    (λ f. rw (heard_close x [] f, up_close x [] f) refl)
    (λ f. by (is_fesc x)
    (λ e. told-stray (x ∷ []) (heard_last x f e) (rw (up_more x [] f) (stray_here x [] e refl)))
    (λ e. told-plain x [] f e (told [])))
told (x ∷ y ∷ l) =
    by (is_fend x)
    (λ f. rw (heard_close x (y ∷ l) f, up_close x (y ∷ l) f, ne_eqb (suc (suc (length l))) 1 (λ e. omega (arith, e))) refl)
    (λ f. by (is_fesc x)
    (λ e. by (eqb y tfend)
    (λ a. let is : y ≡ tfend = eqb-true y tfend a in
    told_two x y fend l f e (rw is refl) (rw is refl) (rw is refl) (heard-tfend x y l f e a) (told l))
    (λ a. by (eqb y tfesc)
    (λ b. let is : y ≡ tfesc = eqb-true y tfesc b in
    told_two x y fesc l f e (rw is refl) (rw is refl) (rw is refl) (heard-tfesc x y l f e a b) (told l))
    (λ b. told-stray (x ∷ (y ∷ l)) (heard-stray x y l f e a b)
    (rw (up_more x (y ∷ l) f) (stray_here x (up_to (y ∷ l)) e (not_behind y l a b))))))
    (λ e. told-plain x (y ∷ l) f e (told (y ∷ l))))

-- ---- the rows
abbrev rows : List ℕ → ℕ → ℕ
rows s room =
    cond (no_opening s) 51
    (cond (nothing s) 55
    (cond (stray_type s) 52
    (cond (not_data s) 54
    (cond (port_over s) 56
    (cond (stray_data s) 52
    (cond (not_closed s) 53
    (cond (short s room) 24 0)))))))

-- a refusal stays one, whatever the room
by-refusal : (s : List ℕ) (room : ℕ) (a : KissError) → read_packet s ≡ Err a → number_by number_of (read_into s room) ≡ number_of a
by-refusal s room a h = rw (into-refused s room a h) refl

-- behind a type octet that stands for itself and that is of data on a port
data-rows : (s : List ℕ) (room port : ℕ) (l : List ℕ) → read_packet s ≡ on_port port (heard false l)
    → number_by number_of (read_into s room)
    ≡ cond (stray (up_to l)) 52
    (cond (not (eqb (length l) (suc (length (up_to l))))) 53
    (cond (ltb room (length (up_to l) - count is_fesc (up_to l))) 24 0))
data-rows s room port l h =
    let u : List ℕ = up_to l in
    let t = told l in
    by (stray u)
    (λ e. let a = measured-refused (heard false l) BadEscape (rw e at t) in
    rw e (by-refusal s room BadEscape (h ∙ rw a refl)))
    (λ e. by (eqb (length l) (suc (length u)))
    (λ c. let a = measured_ok (heard false l) (length u - count is_fesc u) (rw (e, c) at t) in
    let g = h ∙ on-accepted port (heard false l) a.0 in
    let o : length (octets_given (read_packet s)) ≡ length u - count is_fesc u = rw g a.1 in
    rw (e, c, ← o)
    (by (ltb room (length (octets_given (read_packet s))))
    (λ r. rw (r, into-short s room (ltb-true _ _ r)) refl)
    (λ r. rw (r, into_fits s room (ltb-false _ _ r), g) refl)))
    (λ c. let a = measured-refused (heard false l) NoClosing (rw (e, c) at t) in
    rw (e, c) (by-refusal s room NoClosing (h ∙ rw a refl))))

module _ (x y : ℕ) (l : List ℕ) (room : ℕ) (a : is_fend x ≡ true) (b : is_fend y ≡ false) (c : is_fesc y ≡ false) where
  abbrev u : List ℕ
  u = up_to l

  abbrev s : List ℕ
  s = x ∷ (y ∷ l)

  kind : type_octet s ≡ y
  unfolding type_octet
  kind = rw (up_more y l b, c) refl

  plain_is : rows s room
      ≡ cond (not (eqb (field 0 4 y) 0)) 54
      (cond (ltb last_port (field 4 4 y)) 56
      (cond (stray u) 52
      (cond (not (eqb (length l) (suc (length u)))) 53
      (cond (ltb room (length u - count is_fesc u)) 24 0))))
  plain_is =
      let two : suc (length u) + 2 ≡ suc (suc (suc (length u))) = omega arith in
      let ends : eqb (suc (suc (length l))) (suc (length u) + 2) ≡ eqb (length l) (suc (length u)) =
      rw two (eqb-suc-suc (suc (length l)) (suc (suc (length u))) ∙ eqb-suc-suc (length l) (suc (length u))) in
      let long : suc (length u) - 1 - count is_fesc (y ∷ u) ≡ length u - count is_fesc u = rw (count-plain y u c) (omega arith) in
      rw (a, b, kind, up_more y l b, c, stray-plain y u c, ends, long) refl

  read_is : read_packet s ≡ typed y l
  unfolding read_packet opened
  read_is = simp (a, b, c)

  plain_rows : number_by number_of (read_into s room) ≡ rows s room
  plain_rows =
      by (eqb (field 0 4 y) 0)
      (λ e. by (ltb last_port (field 4 4 y))
      (λ p. rw (plain_is, e, p) (by-refusal s room PortTooHigh (read_is ∙ typed_port y l e p)))
      (λ p. rw (plain_is, e, p) (data-rows s room (field 4 4 y) l (read_is ∙ typed_data y l e p))))
      (λ e. rw (plain_is, e) (by-refusal s room NotData (read_is ∙ typed_command y l e)))

-- an escaped type octet: C0 is of port 12, and DB is of command 11
escaped-rows : (x y : ℕ) (l : List ℕ) (room : ℕ) → is_fend x ≡ true → is_fend y ≡ false → is_fesc y ≡ true
    → number_by number_of (read_into (x ∷ (y ∷ l)) room) ≡ rows (x ∷ (y ∷ l)) room
unfolding read_packet opened type_escaped first type_octet
escaped-rows x y [] room a b c =
    rw (a, b, c) (by-refusal (x ∷ (y ∷ [])) room BadEscape (simp (a, b, c)))
escaped-rows x y (z ∷ l) room a b c =
    by (eqb z tfend)
    (λ d. let is : z ≡ tfend = eqb-true z tfend d in
    rw (is, a, b, c) (by-refusal (x ∷ (y ∷ (tfend ∷ l))) room PortTooHigh (simp (a, b, c) (typed_port fend l refl refl))))
    (λ d. by (eqb z tfesc)
    (λ e. let is : z ≡ tfesc = eqb-true z tfesc e in
    rw (is, a, b, c) (by-refusal (x ∷ (y ∷ (tfesc ∷ l))) room NotData (simp (a, b, c) (typed_command fesc l refl))))
    (λ e. let bad = by-refusal (x ∷ (y ∷ (z ∷ l))) room BadEscape (simp (a, b, c, d, e)) in
    by (is_fend z)
    (λ f. rw (a, b, f, c) bad)
    (λ f. rw (a, b, f, c, d, e) bad)))

pub read-rows : (s : List ℕ) (room : ℕ)
    → number_by number_of (read_into s room)
    ≡ cond (no_opening s) 51
    (cond (nothing s) 55
    (cond (stray_type s) 52
    (cond (not_data s) 54
    (cond (port_over s) 56
    (cond (stray_data s) 52
    (cond (not_closed s) 53
    (cond (short s room) 24 0)))))))
unfolding read_packet opened first stray type_octet
read-rows [] room = by-refusal [] room NoOpening refl
read-rows (x ∷ []) room =
    by (is_fend x)
    (λ a. rw a (by-refusal (x ∷ []) room NoClosing (simp a)))
    (λ a. rw a (by-refusal (x ∷ []) room NoOpening (simp a)))
read-rows (x ∷ y ∷ l) room =
    by (is_fend x)
    (λ a. by (is_fend y)
    (λ b. rw (a, b) (by-refusal (x ∷ (y ∷ l)) room Empty (simp (a, b))))
    (λ b. by (is_fesc y)
    (λ c. escaped-rows x y l room a b c)
    (λ c. plain_rows x y l room a b c)))
    (λ a. rw a (by-refusal (x ∷ (y ∷ l)) room NoOpening (simp a)))

-- the two rows of 52 are of one condition: a stray DB in the type octet's place is one before the closing C0
stray-first : (l : List ℕ) → (is_fesc (get_or l 0 0) && not (follows (drop 1 l))) ≡ true → stray l ≡ true
unfolding stray
stray-first [] e = absurd (false≢true e)
stray-first (x ∷ l) e = rw e refl

pub stray_type_lem : (s : List ℕ) → stray_type s ≡ true → stray_data s ≡ true
stray_type_lem s e = stray-first (between s) e
