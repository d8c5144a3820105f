-- What is written: its length, one turn of the writing loop, and the whole packet from its parts.
use Prim.Native.Nat.{ℕ, ◌+◌, ◌≤◌, ◌<◌}
use mathlib.Core.Path.{◌≡◌, refl, ap, sym, ◌∙◌}
use mathlib.Core.Bool.{true, false, cond}
use Rattle.std.specs.Prelude.{Ok, Err}
use mathlib.Core.List.{List, [], ◌∷◌, ◌++◌}
use native.Mathlib.Omega.{arith}
use borrow.Author.Tests.{ne_eqb, lt-ltb, le-ltb, ltb-false}
use lib.Dec.{eqb, ltb}
use lib.ListN.{length, get_or, set, take, drop, length-append, length-set}
use Rattle.octets.specs.Splice.{splice}
use Rattle.octets.specs.Count.{count}
use Rattle.octets.specs.First.{first}
use Rattle.octets.proofs.Choice.{by, neither}
use Rattle.octets.proofs.First.{first_le}
use Rattle.octets.proofs.Splice.{splice_none, splice_one, splice-length, splice-cons, splice-then}
use Rattle.escapes.specs.Escape.{fend, fesc, tfend, tfesc, escape_of, escaped, special}
use Rattle.kiss.specs.Packet.{type_of, last_port, packet}
use Rattle.kiss.specs.Steps.{next_count, next_octets}
use Rattle.kiss.specs.Write.{octets_written, written}
use Rattle.kiss.specs.declared.KissWriteError.TheVariants.{PortTooHigh, NoRoom}

-- ---- one octet
pub escape-fend : (b : ℕ) → eqb b fend ≡ true → escape_of b ≡ fesc ∷ tfend ∷ []
unfolding escape_of
escape-fend b e = simp e

pub escape-fesc : (b : ℕ) → eqb b fend ≡ false → eqb b fesc ≡ true → escape_of b ≡ fesc ∷ tfesc ∷ []
unfolding escape_of
escape-fesc b e f = simp (e, f)

pub escape-plain : (b : ℕ) → eqb b fend ≡ false → eqb b fesc ≡ false → escape_of b ≡ b ∷ []
unfolding escape_of
escape-plain b e f = simp (e, f)

escape-length : (b : ℕ) → length (escape_of b) ≡ cond (special b) 2 1
escape-length b =
    by (eqb b fend)
    (λ e. rw (escape-fend b e, e) refl)
    (λ e. by (eqb b fesc)
    (λ f. rw (escape-fesc b e f, e, f) refl)
    (λ f. rw (escape-plain b e f, e, f) refl))

-- ---- the data
-- one more for each C0 and DB
pub escaped-length : (s : List ℕ) → length (escaped s) ≡ length s + count special s
unfolding escaped count
escaped-length [] = refl
escaped-length (b ∷ s) =
    let rest = escaped-length s in
    let both = length-append (escape_of b) (escaped s) in
    by (special b)
    (λ e. rw e (omega (arith, both, rw e at (escape-length b))))
    (λ e. rw e (omega (arith, both, rw e at (escape-length b))))

-- up to the first special octet it stands for itself
escaped_run : (l : List ℕ) → escaped l ≡ take (first special l) l ++ escaped (drop (first special l) l)
unfolding escaped first
escaped_run [] = refl
escaped_run (x ∷ l) =
    by (special x)
    (λ e. rw e refl)
    (λ e. let n = neither (eqb x fend) (eqb x fesc) e in
    rw (e, escape-plain x n.0 n.1) (ap (λ (t : List ℕ). x ∷ t) (escaped_run l)))

-- ---- one step of the writing loop
-- what it takes and writes, by the first octet
pub next_fend : (l : List ℕ) → 1 ≤ length l → get_or l 0 0 ≡ fend → (next_count l ≡ 1) × (next_octets l ≡ fesc ∷ tfend ∷ [])
unfolding next_count next_octets
next_fend [] h e = absurd (omega arith)
next_fend (x ∷ l) h e = rw e (refl, refl)

pub next_fesc : (l : List ℕ) → 1 ≤ length l → get_or l 0 0 ≡ fesc → (next_count l ≡ 1) × (next_octets l ≡ fesc ∷ tfesc ∷ [])
unfolding next_count next_octets
next_fesc [] h e = absurd (omega arith)
next_fesc (x ∷ l) h e = rw e (refl, refl)

pub next_plain : (l : List ℕ) → 1 ≤ length l → (get_or l 0 0 ≡ fend → ⊥) → (get_or l 0 0 ≡ fesc → ⊥)
    → (next_count l ≡ first special l) × (next_octets l ≡ take (first special l) l) × (1 ≤ first special l)
unfolding next_count next_octets first
next_plain [] h e f = absurd (omega arith)
next_plain (x ∷ l) h e f = rw (ne_eqb x fend e, ne_eqb x fesc f) (refl, refl, omega arith)

-- either way it is a part of what is to be written
next_splits : (l : List ℕ) → 1 ≤ length l → escaped l ≡ next_octets l ++ escaped (drop (next_count l) l)
unfolding escaped next_count next_octets
next_splits [] h = absurd (omega arith)
next_splits (x ∷ l) h =
    by (eqb x fend)
    (λ e. rw (e, escape-fend x e) refl)
    (λ e. by (eqb x fesc)
    (λ f. rw (e, f, escape-fesc x e f) refl)
    (λ f. rw (e, f) (escaped_run (x ∷ l))))

-- and takes some
pub next_takes : (l : List ℕ) → 1 ≤ length l → (1 ≤ next_count l) × (next_count l ≤ length l)
unfolding next_count first
next_takes [] h = absurd (omega arith)
next_takes (x ∷ l) h =
    by (eqb x fend)
    (λ e. rw e (omega arith, omega arith))
    (λ e. by (eqb x fesc)
    (λ f. rw (e, f) (omega arith, omega arith))
    (λ f. rw (e, f) (omega arith, omega (arith, first_le special l))))

-- so that it has room where all that is to be written has
pub next_fits : (l : List ℕ) → 1 ≤ length l → length (next_octets l) ≤ length (escaped l)
next_fits l h = omega (arith, ap length (next_splits l h), length-append (next_octets l) (escaped (drop (next_count l) l)))

escaped_empty : (l : List ℕ) → length l ≡ 0 → escaped l ≡ []
unfolding escaped
escaped_empty [] h = refl
escaped_empty (x ∷ l) h = absurd (omega arith)

-- what is left of the data is still to be written from place j on
pub record Left (rest out : List ℕ) (n j : ℕ) (whole : List ℕ) : Type 0 where
  pub many : j + length (escaped rest) ≡ n
  pub long : n ≤ length out
  pub is : splice out j (escaped rest) ≡ whole

module _ (rest out : List ℕ) (n j : ℕ) (whole : List ℕ) (l : Left rest out n j whole) where
  pub left_turn : (r : List ℕ) (to : ℕ) (out₁ : List ℕ) → 1 ≤ length rest → r ≡ drop (next_count rest) rest → to ≡ j + length (next_octets rest)
      → out₁ ≡ splice out j (next_octets rest) → Left r out₁ n to whole
  left_turn r to out₁ some d e f =
      let a : List ℕ = next_octets rest in
      let b : List ℕ = escaped (drop (next_count rest) rest) in
      let step : escaped rest ≡ a ++ b = next_splits rest some in
      let both : length (escaped rest) ≡ length a + length b = ap length step ∙ length-append a b in
      let many = l.many in
      let long = l.long in
      rw (d, e) (record {
        many = omega arith;
        long = rw (f, splice-length) long;
        is = rw f (splice-then out j (length a) a b refl (omega arith) ∙ ap (splice out j) (sym step) ∙ l.is);
      })

  pub left_none : length rest ≡ 0 → out ≡ whole
  left_none h = sym (splice_none out j) ∙ (rw (escaped_empty rest h) at l.is)

-- ---- the packet
-- three, the data's length, and one for each C0 and DB in it
pub packet-length : (port : ℕ) (s : List ℕ) → length (packet port s) ≡ 3 + length s + count special s
unfolding packet
packet-length port s = omega (arith, length-append (escaped s) (fend ∷ []), escaped-length s)

-- from its parts
pub packet_parts : (out : List ℕ) (port : ℕ) (s : List ℕ) → 3 + length s + count special s ≤ length out
    → set (splice (set (set out 0 fend) 1 (type_of port)) 2 (escaped s)) (2 + length s + count special s) fend ≡ splice out 0 (packet port s)
unfolding packet
packet_parts out port s h =
    let n = escaped-length s in
    let two : List ℕ = set (set out 0 fend) 1 (type_of port) in
    let long : length two ≡ length out = length-set (set out 0 fend) 1 (type_of port) ∙ length-set out 0 fend in
    let e : List ℕ = escaped s in
    let behind = length-append e (fend ∷ []) in
    let end : 2 + length s + count special s ≡ 2 + (length s + count special s) = omega arith in
    sym (splice_one (splice two 2 e) (2 + length s + count special s) fend (rw (splice-length, long) (omega arith)))
    ∙ ap (λ (k : ℕ). splice (splice two 2 e) k (fend ∷ [])) end
    ∙ splice-then two 2 (length s + count special s) e (fend ∷ []) n (omega arith)
    ∙ splice-cons (set out 0 fend) 1 (type_of port) (e ++ (fend ∷ [])) (rw (length-set out 0 fend) (omega arith))
    ∙ splice-cons out 0 fend (type_of port ∷ (e ++ (fend ∷ []))) (omega arith)

-- ---- the answers
pub write_port : (port : ℕ) (s : List ℕ) (room : ℕ) → last_port < port → written port s room ≡ Err PortTooHigh
unfolding written
write_port port s room h = simp (lt-ltb _ _ h)

pub write-short : (port : ℕ) (s : List ℕ) (room : ℕ) → port ≤ last_port → room < length (packet port s) → written port s room ≡ Err NoRoom
unfolding written
write-short port s room p h = simp (le-ltb _ _ p, lt-ltb _ _ h)

pub write_fits : (port : ℕ) (s : List ℕ) (room : ℕ) → port ≤ last_port → length (packet port s) ≤ room → written port s room ≡ Ok (packet port s)
unfolding written
write_fits port s room p h = simp (le-ltb _ _ p, le-ltb _ _ h)

-- what is written has room
pub written-room : (port : ℕ) (s : List ℕ) (room : ℕ) → length (octets_written port s room) ≤ room
unfolding written
written-room port s room =
    by (ltb last_port port)
    (λ e. rw e (omega arith))
    (λ e. by (ltb room (length (packet port s)))
    (λ f. rw (e, f) (omega arith))
    (λ f. rw (e, f) (ltb-false room (length (packet port s)) f)))
