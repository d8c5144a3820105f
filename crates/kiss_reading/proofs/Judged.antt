-- Reading by its cases: what stands before the data decides which packets are judged by it.
use Rattle.std.proofs.Common.{◌≡◌, ℕ, ◌≤◌, ◌<◌, true, false, List, [], ◌∷◌, Result, Ok, Err, is_ok, eqb, ltb, length, get_or, drop, refl, ap, sym, ◌∙◌, arith, eqb-true}
use mathlib.Core.Bool.{false≢true}
use borrow.Author.Tests.{ltb-false, lt-ltb, le-ltb}
use Rattle.octets.specs.Octet.{field}
use Rattle.octets.specs.Outcome.{octets_of, measured}
use Rattle.octets.proofs.Choice.{by}
use Rattle.escapes.specs.Escape.{fend, fesc, tfend, tfesc}
use Rattle.kiss.specs.Packet.{last_port}
use Rattle.kiss_reading.specs.Answer.{Reading, accepted, octets_given, read_of}
use Rattle.kiss_reading.specs.Read.{more, heard, on_port, typed, type_escaped, opened, read_packet, read_into}
use Rattle.kiss_reading.specs.Steps.{plus}
use Rattle.kiss_reading.specs.declared.KissError.{KissError}
use Rattle.kiss_reading.specs.declared.KissError.TheVariants.{NotData, PortTooHigh, NoRoom}
use Rattle.kiss_reading.specs.declared.KissRead.{KissRead}

-- ---- one more octet of data
pub more_ok : (b : ℕ) (h : Result (List ℕ) KissError) → is_ok (more b h) ≡ is_ok h
more_ok b (Ok s) = refl
more_ok b (Err e) = refl

pub more_octets : (b : ℕ) (h : Result (List ℕ) KissError) → is_ok h ≡ true → octets_of (more b h) ≡ b ∷ octets_of h
more_octets b (Ok s) a = refl
more_octets b (Err e) a = absurd (false≢true a)

pub more_measured : (b : ℕ) (h : Result (List ℕ) KissError) → measured (more b h) ≡ plus 1 (measured h)
more_measured b (Ok s) = ap (λ (n : ℕ). Ok n) (omega arith)
more_measured b (Err e) = refl

-- how much there is tells whether it is refused, and which
pub measured-refused : (h : Result (List ℕ) KissError) (e : KissError) → measured h ≡ Err e → h ≡ Err e
measured-refused (Ok s) e m = cc
measured-refused (Err d) e m = let i : d ≡ e = cc in ap (λ (y : KissError). Err y) i

pub measured_ok : (h : Result (List ℕ) KissError) (n : ℕ) → measured h ≡ Ok n → (is_ok h ≡ true) × (length (octets_of h) ≡ n)
measured_ok (Ok s) n m = let i : length s ≡ n = cc in (refl, i)
measured_ok (Err e) n m = cc

-- ---- the type octet
pub typed_command : (t : ℕ) (s : List ℕ) → eqb (field 0 4 t) 0 ≡ false → typed t s ≡ Err NotData
unfolding typed
typed_command t s e = simp e

pub typed_port : (t : ℕ) (s : List ℕ) → eqb (field 0 4 t) 0 ≡ true → ltb last_port (field 4 4 t) ≡ true → typed t s ≡ Err PortTooHigh
unfolding typed
typed_port t s e p = simp (e, p)

pub typed_data : (t : ℕ) (s : List ℕ) → eqb (field 0 4 t) 0 ≡ true → ltb last_port (field 4 4 t) ≡ false
    → typed t s ≡ on_port (field 4 4 t) (heard false s)
unfolding typed
typed_data t s e p = simp (e, p)

-- on a port a refusal is the refusal that it was
pub on-refused : (port : ℕ) (h : Result (List ℕ) KissError) (x : KissError) → h ≡ Err x → on_port port h ≡ Err x
on-refused port h x e = rw e refl

pub on-stays : (port : ℕ) (h : Result (List ℕ) KissError) → is_ok h ≡ false → is_ok (on_port port h) ≡ false
on-stays port (Ok s) e = e
on-stays port (Err x) e = refl

pub on-accepted : (port : ℕ) (h : Result (List ℕ) KissError) → is_ok h ≡ true → on_port port h ≡ accepted port (octets_of h)
on-accepted port (Ok s) e = refl
on-accepted port (Err x) e = absurd (false≢true e)

-- ---- what stands behind the opening C0
pub opened-typed : (s : List ℕ) → 1 < length s → eqb (get_or s 1 0) fend ≡ false → eqb (get_or s 1 0) fesc ≡ false
    → opened (drop 1 s) ≡ typed (get_or s 1 0) (drop 2 s)
unfolding opened
opened-typed [] h f e = absurd (omega arith)
opened-typed (x ∷ []) h f e = absurd (omega arith)
opened-typed (x ∷ y ∷ s) h f e = simp (f, e)

pub read_opened : (s : List ℕ) → 0 < length s → eqb (get_or s 0 0) fend ≡ true → read_packet s ≡ opened (drop 1 s)
unfolding read_packet
read_opened [] h e = absurd (omega (arith, h))
read_opened (x ∷ s) h e = simp e

-- ---- the room
pub into-short : (s : List ℕ) (room : ℕ) → room < length (octets_given (read_packet s)) → read_into s room ≡ Err NoRoom
unfolding read_into
into-short s room h = simp (lt-ltb _ _ h)

pub into_fits : (s : List ℕ) (room : ℕ) → length (octets_given (read_packet s)) ≤ room → read_into s room ≡ read_packet s
unfolding read_into
into_fits s room h = simp (le-ltb _ _ h)

pub into-refused : (s : List ℕ) (room : ℕ) (e : KissError) → read_packet s ≡ Err e → read_into s room ≡ Err e
into-refused s room e r = into_fits s room (rw r (omega arith)) ∙ r

-- what the function gives tells what was read
pub told-refused : (x : Reading) (e : KissError) → Err e ≡ read_of x → x ≡ Err e
told-refused (Ok g) e h = cc
told-refused (Err d) e h = let i : d ≡ e = cc in ap (λ (y : KissError). Err y) i

pub told-accepted : (x : Reading) (r : KissRead) → Ok r ≡ read_of x → (is_ok x ≡ true) × (r.length ≡ length (octets_given x))
told-accepted (Ok g) r h = let i : r ≡ record { port = g.port; length = length g.octets } = cc in (refl, ap (λ (y : KissRead). y.length) i)
told-accepted (Err e) r h = cc

-- ---- what is accepted
-- a packet that is accepted: its type octet stands for itself, and the data is what is heard behind it
pub record Read (s : List ℕ) : Type 0 where
  pub kind : ℕ
  pub rest : List ℕ
  pub is : s ≡ fend ∷ (kind ∷ rest)
  pub command : field 0 4 kind ≡ 0
  pub port : field 4 4 kind ≤ last_port
  pub good : is_ok (heard false rest) ≡ true
  pub gives : read_packet s ≡ accepted (field 4 4 kind) (octets_of (heard false rest))

no : {A : Type 0} → false ≡ true → A
no e = absurd (false≢true e)

-- its type octet and what stands behind it
pub accepted_type : (x y : ℕ) (l : List ℕ) → eqb x fend ≡ true → eqb y fend ≡ false → eqb y fesc ≡ false → is_ok (typed y l) ≡ true
    → read_packet (x ∷ (y ∷ l)) ≡ typed y l → Read (x ∷ (y ∷ l))
accepted_type x y l a b c h g =
    by (eqb (field 0 4 y) 0)
    (λ e. by (ltb last_port (field 4 4 y))
    (λ p. no (rw (typed_port y l e p) at h))
    (λ p. let t = typed_data y l e p in
    by (is_ok (heard false l))
    (λ n. record {
      kind = y;
      rest = l;
      is = ap (λ (z : ℕ). z ∷ (y ∷ l)) (eqb-true x fend a);
      command = eqb-true _ _ e;
      port = ltb-false _ _ p;
      good = n;
      gives = g ∙ t ∙ on-accepted _ _ n;
    })
    (λ n. no (sym (on-stays (field 4 4 y) (heard false l) n) ∙ rw t at h))))
    (λ e. no (rw (typed_command y l e) at h))

-- an escaped type octet is C0, on port 12, or DB, with command 11: neither is accepted
escaped_type : {A : Type 0} (l : List ℕ) → is_ok (type_escaped l) ≡ true → A
unfolding type_escaped
escaped_type [] h = no h
escaped_type (x ∷ l) h =
    by (eqb x tfend)
    (λ a. no (simp (a, typed_port fend l refl refl) at h))
    (λ a. by (eqb x tfesc)
    (λ b. no (simp (a, b, typed_command fesc l refl) at h))
    (λ b. no (simp (a, b) at h)))

pub accepted_read : (s : List ℕ) → is_ok (read_packet s) ≡ true → Read s
unfolding read_packet opened type_escaped
accepted_read [] h = no h
accepted_read (x ∷ []) h = by (eqb x fend) (λ a. no (simp a at h)) (λ a. no (simp a at h))
accepted_read (x ∷ y ∷ l) h =
    by (eqb x fend)
    (λ a. by (eqb y fend)
    (λ b. no (simp (a, b) at h))
    (λ b. by (eqb y fesc)
    (λ c. escaped_type l (simp (a, b, c) at h))
    (λ c. accepted_type x y l a b c (simp (a, b, c) at h) (simp (a, b, c)))))
    (λ a. no (simp a at h))

-- so the data starts behind two octets
pub data-heard : (s : List ℕ) → is_ok (read_packet s) ≡ true
    → (is_ok (heard false (drop 2 s)) ≡ true) × (octets_given (read_packet s) ≡ octets_of (heard false (drop 2 s)))
data-heard s h =
    let r = accepted_read s h in
    let cut : drop 2 s ≡ r.rest = ap (drop 2) r.is in
    rw cut (r.good, ap octets_given r.gives)
