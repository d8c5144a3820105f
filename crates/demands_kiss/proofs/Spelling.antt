-- One spelling: reading what was written gives port and octets, and nothing else is accepted.
use Prim.Native.Nat.{ℕ, zero, suc, ◌+◌, ◌*◌, ◌≤◌, ◌<◌}
use mathlib.Core.Path.{◌≡◌, refl, ap, sym, ◌∙◌}
use mathlib.Core.Bool.{true, false, false≢true}
use mathlib.Core.List.{List, [], ◌∷◌, ◌++◌}
use native.Mathlib.Omega.{arith}
use borrow.Author.Tests.{eqb-true, eq-eqb, ne_eqb, le-ltb}
use Rattle.std.specs.Prelude.{Result, Ok, Err, is_ok}
use lib.Dec.{eqb}
use lib.ListN.{length, get_or, drop}
use Rattle.octets.specs.Octet.{Octets, field}
use Rattle.octets.specs.Outcome.{octets_of}
use Rattle.octets.proofs.Choice.{by}
use Rattle.octets.proofs.Octet.{octets-drop}
use Rattle.octets.proofs.Count.{count_le}
use Rattle.escapes.specs.Escape.{fend, fesc, tfend, tfesc, escaped, special}
use Rattle.kiss.specs.Packet.{type_of, last_port, packet}
use Rattle.kiss.proofs.Laws.{escape-fend, escape-fesc, escape-plain, packet-length}
use Rattle.kiss.proofs.Grammar.{escaped_none, escaped-cons, packet_is}
use Rattle.kiss_reading.specs.Answer.{accepted, port_given, octets_given}
use Rattle.kiss_reading.specs.Read.{more, closed, heard, typed, opened, read_packet}
use Rattle.kiss_reading.specs.declared.KissError.{KissError}
use Rattle.kiss_reading.specs.declared.KissError.TheVariants.{BadEscape}
use Rattle.kiss_reading.proofs.Judged.{more_ok, more_octets, accepted_read, typed_data, on-accepted, data-heard}

-- ---- what is heard, one octet of data at a time
pub heard_close : (x : ℕ) (l : List ℕ) → eqb x fend ≡ true → heard false (x ∷ l) ≡ closed l
unfolding heard
heard_close x l f = simp f

pub heard-plain : (x : ℕ) (l : List ℕ) → eqb x fend ≡ false → eqb x fesc ≡ false → heard false (x ∷ l) ≡ more x (heard false l)
unfolding heard
heard-plain x l f e = simp (f, e)

pub heard_last : (x : ℕ) → eqb x fend ≡ false → eqb x fesc ≡ true → heard false (x ∷ []) ≡ Err BadEscape
unfolding heard
heard_last x f e = simp (f, e)

pub heard-tfend : (x y : ℕ) (l : List ℕ) → eqb x fend ≡ false → eqb x fesc ≡ true → eqb y tfend ≡ true
    → heard false (x ∷ (y ∷ l)) ≡ more fend (heard false l)
unfolding heard
heard-tfend x y l f e a = simp (f, e, a)

pub heard-tfesc : (x y : ℕ) (l : List ℕ) → eqb x fend ≡ false → eqb x fesc ≡ true → eqb y tfend ≡ false → eqb y tfesc ≡ true
    → heard false (x ∷ (y ∷ l)) ≡ more fesc (heard false l)
unfolding heard
heard-tfesc x y l f e a b = simp (f, e, a, b)

pub heard-stray : (x y : ℕ) (l : List ℕ) → eqb x fend ≡ false → eqb x fesc ≡ true → eqb y tfend ≡ false → eqb y tfesc ≡ false
    → heard false (x ∷ (y ∷ l)) ≡ Err BadEscape
unfolding heard
heard-stray x y l f e a b = simp (f, e, a, b)

-- ---- what was written is read
abbrev whole : List ℕ → Result (List ℕ) KissError
whole s = Ok s

abbrev behind : List ℕ → List ℕ
behind s = escaped s ++ (fend ∷ [])

behind-fend : (b : ℕ) (s : List ℕ) → eqb b fend ≡ true → behind (b ∷ s) ≡ fesc ∷ (tfend ∷ behind s)
behind-fend b s f = rw (escaped-cons b s, escape-fend b f) refl

behind-fesc : (b : ℕ) (s : List ℕ) → eqb b fend ≡ false → eqb b fesc ≡ true → behind (b ∷ s) ≡ fesc ∷ (tfesc ∷ behind s)
behind-fesc b s f e = rw (escaped-cons b s, escape-fesc b f e) refl

behind-plain : (b : ℕ) (s : List ℕ) → eqb b fend ≡ false → eqb b fesc ≡ false → behind (b ∷ s) ≡ b ∷ behind s
behind-plain b s f e = rw (escaped-cons b s, escape-plain b f e) refl

behind_none : behind [] ≡ fend ∷ []
behind_none = rw escaped_none refl

heard-written : (s : List ℕ) → heard false (behind s) ≡ whole s
heard-written [] = rw behind_none (heard_close fend [] refl)
heard-written (b ∷ s) =
    by (eqb b fend)
    (λ f. ap (heard false) (behind-fend b s f) ∙ heard-tfend fesc tfend (behind s) refl refl refl
    ∙ rw (heard-written s) (ap (λ (x : ℕ). whole (x ∷ s)) (sym (eqb-true b fend f))))
    (λ f. by (eqb b fesc)
    (λ e. ap (heard false) (behind-fesc b s f e) ∙ heard-tfesc fesc tfesc (behind s) refl refl refl refl
    ∙ rw (heard-written s) (ap (λ (x : ℕ). whole (x ∷ s)) (sym (eqb-true b fesc e))))
    (λ e. ap (heard false) (behind-plain b s f e) ∙ heard-plain b (behind s) f e ∙ rw (heard-written s) refl))

-- a type octet that stands for itself
read-typed : (t : ℕ) (l : List ℕ) → eqb t fend ≡ false → eqb t fesc ≡ false → read_packet (fend ∷ (t ∷ l)) ≡ typed t l
unfolding read_packet opened
read-typed t l f e = simp (f, e)

pub read-written : (port : ℕ) (s : List ℕ) → port ≤ last_port → read_packet (packet port s) ≡ accepted port s
read-written port s h =
    let t : ℕ = type_of port in
    let all = heard-written s in
    let high : field 4 4 t ≡ port = omega arith in
    ap read_packet (packet_is port s)
    ∙ read-typed t (behind s) (ne_eqb t fend (λ e. omega (arith, e))) (ne_eqb t fesc (λ e. omega (arith, e)))
    ∙ typed_data t (behind s) (eq-eqb (field 0 4 t) 0 (omega arith)) (le-ltb last_port (field 4 4 t) (omega arith))
    ∙ on-accepted (field 4 4 t) (heard false (behind s)) (rw all refl)
    ∙ rw (all, high) refl

-- ---- nothing else is
no : {A : Type 0} → false ≡ true → A
no e = absurd (false≢true e)

-- one more octet is heard of what is accepted
on : (b : ℕ) (l : List ℕ) → is_ok (more b (heard false l)) ≡ true → (is_ok (heard false l) ≡ true) × (octets_of (more b (heard false l)) ≡ b ∷ octets_of (heard false l))
on b l a =
    let h : is_ok (heard false l) ≡ true = sym (more_ok b (heard false l)) ∙ a in
    (h, more_octets b (heard false l) h)

heard_only : (l : List ℕ) → is_ok (heard false l) ≡ true → behind (octets_of (heard false l)) ≡ l
unfolding heard
heard_only [] a = no a
heard_only (x ∷ []) a =
    by (eqb x fend)
    (λ f. rw (heard_close x [] f, behind_none) (ap (λ (z : ℕ). z ∷ []) (sym (eqb-true x fend f))))
    (λ f. by (eqb x fesc)
    (λ e. no (rw (heard_last x f e) at a))
    (λ e. no (rw (heard-plain x [] f e) at a)))
heard_only (x ∷ y ∷ l) a =
    by (eqb x fend)
    (λ f. no (rw (heard_close x (y ∷ l) f) at a))
    (λ f. by (eqb x fesc)
    (λ e. by (eqb y tfend)
    (λ c. let t = heard-tfend x y l f e c in
    let k = on fend l (rw t at a) in
    rw (t, k.1, behind-fend fend (octets_of (heard false l)) refl, heard_only l k.0, eqb-true x fesc e, eqb-true y tfend c) refl)
    (λ c. by (eqb y tfesc)
    (λ d. let t = heard-tfesc x y l f e c d in
    let k = on fesc l (rw t at a) in
    rw (t, k.1, behind-fesc fesc (octets_of (heard false l)) refl refl, heard_only l k.0, eqb-true x fesc e, eqb-true y tfesc d) refl)
    (λ d. no (rw (heard-stray x y l f e c d) at a))))
    (λ e. let t = heard-plain x (y ∷ l) f e in
    let k = on x (y ∷ l) (rw t at a) in
    rw (t, k.1, behind-plain x (octets_of (heard false (y ∷ l))) f e) (ap (λ (z : List ℕ). x ∷ z) (heard_only (y ∷ l) k.0))))

pub only : (s : List ℕ) → Octets s → is_ok (read_packet s) ≡ true
    → (port_given (read_packet s) ≤ last_port) × (packet (port_given (read_packet s)) (octets_given (read_packet s)) ≡ s)
only s o h =
    let r = accepted_read s h in
    let kind : ℕ = r.kind in
    let small : kind < 256 = rw (ap (λ (x : List ℕ). get_or x 1 0) r.is) at (o 1) in
    let command = r.command in
    let type : type_of (field 4 4 kind) ≡ kind = omega arith in
    let data_is = heard_only r.rest r.good in
    rw r.gives (
      r.port,
      packet_is (field 4 4 kind) (octets_of (heard false r.rest)) ∙ rw (type, data_is) (sym r.is),
    )

-- ---- octets are read from octets
octets-more : (b : ℕ) (h : Result (List ℕ) KissError) → b < 256 → Octets (octets_of h) → Octets (octets_of (more b h))
octets-more b (Ok s) l o zero = l
octets-more b (Ok s) l o (suc k) = o k
octets-more b (Err e) l o k = o k

heard-octets : (l : List ℕ) → Octets l → Octets (octets_of (heard false l))
unfolding heard
heard-octets [] o = o
heard-octets (x ∷ []) o =
    by (eqb x fend)
    (λ f. rw (heard_close x [] f) (λ k. omega arith))
    (λ f. by (eqb x fesc)
    (λ e. rw (heard_last x f e) (λ k. omega arith))
    (λ e. rw (heard-plain x [] f e) (λ k. omega arith)))
heard-octets (x ∷ y ∷ l) o =
    let rest = octets-drop (x ∷ (y ∷ l)) 1 o in
    let h : Result (List ℕ) KissError = heard false l in
    by (eqb x fend)
    (λ f. rw (heard_close x (y ∷ l) f) (λ k. omega arith))
    (λ f. by (eqb x fesc)
    (λ e. let behind-it = heard-octets l (octets-drop (y ∷ l) 1 rest) in
    by (eqb y tfend)
    (λ a. rw (heard-tfend x y l f e a) (octets-more fend h (omega arith) behind-it))
    (λ a. by (eqb y tfesc)
    (λ b. rw (heard-tfesc x y l f e a b) (octets-more fesc h (omega arith) behind-it))
    (λ b. rw (heard-stray x y l f e a b) (λ k. omega arith))))
    (λ e. rw (heard-plain x (y ∷ l) f e) (octets-more x (heard false (y ∷ l)) (o 0) (heard-octets (y ∷ l) rest))))

pub data-octets : (s : List ℕ) → Octets s → is_ok (read_packet s) ≡ true → Octets (octets_given (read_packet s))
data-octets s o h = rw (data-heard s h).1 (heard-octets (drop 2 s) (octets-drop s 2 o))

-- ---- so each packet has one spelling, and each spelling is of one packet
pub one-packet : (s t : List ℕ) → Octets s → Octets t → is_ok (read_packet s) ≡ true → is_ok (read_packet t) ≡ true
    → port_given (read_packet s) ≡ port_given (read_packet t) → octets_given (read_packet s) ≡ octets_given (read_packet t) → s ≡ t
one-packet s t o p a b e f = sym (only s o a).1 ∙ rw (e, f) (only t p b).1

pub packet_one : (p q : ℕ) (s t : List ℕ) → p ≤ last_port → q ≤ last_port → packet p s ≡ packet q t → (p ≡ q) × (s ≡ t)
packet_one p q s t h k e =
    let same : accepted p s ≡ accepted q t = sym (read-written p s h) ∙ ap read_packet e ∙ read-written q t k in
    (ap port_given same, ap octets_given same)

-- ---- its length
pub packet-most : (port : ℕ) (s : List ℕ) → length (packet port s) ≤ 2 * length s + 3
packet-most port s = omega (arith, packet-length port s, count_le special s)
