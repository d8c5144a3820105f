-- One turn of each loop of reading: what the octets from a place on come to, by the step that stands there.
use Rattle.std.proofs.Common.{◌≡◌, ℕ, ◌+◌, ◌-◌, ◌<◌, ◌≤◌, true, false, List, [], ◌∷◌, ◌++◌, Option, Some, None, is_some, Result, Ok, Err, is_ok, eqb, length, take, drop, refl, ap, sym, ◌∙◌, arith, length-append}
use mathlib.Core.Bool.{false≢true}
use lib.Seq.{length-take-le}
use Rattle.std.proofs.lemmas.List.{nil_from_length}
use Rattle.octets.specs.First.{first}
use Rattle.octets.specs.Outcome.{octets_of, measured}
use Rattle.octets.specs.Splice.{splice}
use Rattle.octets.proofs.Choice.{by, neither}
use Rattle.octets.proofs.First.{first_le}
use Rattle.octets.proofs.Splice.{splice_none, splice-length, splice-then, part_from}
use Rattle.escapes.specs.Escape.{fend, fesc, tfend, tfesc, special}
use Rattle.kiss_reading.specs.Read.{more, heard}
use Rattle.kiss_reading.specs.Steps.{taken_by, given_by, data_of, escape_step, step_from, stopped_at, plus}
use Rattle.kiss_reading.specs.declared.KissError.{KissError}
use Rattle.kiss_reading.specs.declared.KissError.TheVariants.{BadEscape}
use Rattle.kiss_reading.specs.declared.Step.{Step}
use Rattle.kiss_reading.specs.declared.Step.TheVariants.{Plain, Escaped}

-- some data, and then what is heard
abbrev pub joined : List ℕ → Result (List ℕ) KissError → Result (List ℕ) KissError
joined s (Ok t) = Ok (s ++ t)
joined s (Err e) = Err e

joined_more : (x : ℕ) (s : List ℕ) (h : Result (List ℕ) KissError) → more x (joined s h) ≡ joined (x ∷ s) h
joined_more x s (Ok t) = refl
joined_more x s (Err e) = refl

more_joined : (x : ℕ) (h : Result (List ℕ) KissError) → more x h ≡ joined (x ∷ []) h
more_joined x (Ok t) = refl
more_joined x (Err e) = refl

joined_none : (h : Result (List ℕ) KissError) → h ≡ joined [] h
joined_none (Ok t) = refl
joined_none (Err e) = refl

-- octets that stand for themselves are heard as they are
heard_run : (l : List ℕ) → heard false l ≡ joined (take (first special l) l) (heard false (drop (first special l) l))
unfolding heard first
heard_run [] = refl
heard_run (x ∷ l) =
    by (special x)
    (λ e. rw e (joined_none (heard false (x ∷ l))))
    (λ e. let n = neither (eqb x fend) (eqb x fesc) e in
    rw (e, n.0, n.1) (ap (more x) (heard_run l) ∙ joined_more x (take (first special l) l) (heard false (drop (first special l) l))))

-- where no step is left
stops_two : (l : List ℕ) → escape_step l ≡ None → heard true l ≡ Err BadEscape
unfolding heard escape_step
stops_two [] e = refl
stops_two (y ∷ l) e =
    by (eqb y tfend)
    (λ a. let n = rw a at e in cc)
    (λ a. by (eqb y tfesc) (λ b. let n = rw (a, b) at e in cc) (λ b. rw (a, b) refl))

pub stops : (l : List ℕ) → step_from l ≡ None → heard false l ≡ stopped_at l
unfolding heard step_from stopped_at
stops [] e = refl
stops (x ∷ l) e =
    by (eqb x fend)
    (λ a. rw a refl)
    (λ a. by (eqb x fesc) (λ b. rw (a, b) (stops_two l (rw (a, b) at e))) (λ b. let n = rw (a, b) at e in cc))

run_fend : (x : ℕ) (l : List ℕ) → eqb x fend ≡ true → first special (x ∷ l) ≡ 0
unfolding first
run_fend x l a = rw a refl

-- no octet that stands for itself is at a C0, and where there are some they are a step
pub run_none : (x : ℕ) (l : List ℕ) → eqb x fesc ≡ false → first special (x ∷ l) ≡ 0 → step_from (x ∷ l) ≡ None
unfolding step_from first
run_none x l f e =
    by (eqb x fend)
    (λ a. rw a refl)
    (λ a. let n = rw (a, f) at e in cc)

pub run_some : (x n : ℕ) (l : List ℕ) → eqb x fesc ≡ false → n ≡ first special (x ∷ l) → (n ≡ 0 → ⊥) → step_from (x ∷ l) ≡ Some (Plain n)
unfolding step_from
run_some x n l f e some =
    by (eqb x fend)
    (λ a. absurd (some (e ∙ run_fend x l a)))
    (λ a. rw (a, f, ← e) refl)

-- there is a step: what is heard is its data, and then what is heard behind it
pub record Goes (l : List ℕ) (k : Step) : Type 0 where
  pub some : 1 ≤ given_by k
  pub wide : taken_by k ≤ length l
  pub short : given_by k ≤ taken_by k
  pub long : length (data_of k l) ≡ given_by k
  pub is : heard false l ≡ joined (data_of k l) (heard false (drop (taken_by k) l))

goes_run : (x : ℕ) (l : List ℕ) → eqb x fend ≡ false → eqb x fesc ≡ false → Goes (x ∷ l) (Plain (first special (x ∷ l)))
unfolding first
goes_run x l f e =
    let wide = first_le special (x ∷ l) in
    record {
      some = rw (f, e) (omega arith);
      wide = wide;
      short = omega arith;
      long = length-take-le (first special (x ∷ l)) (x ∷ l) wide;
      is = heard_run (x ∷ l);
    }

goes_two : (x : ℕ) (l : List ℕ) (k : Step) → eqb x fend ≡ false → eqb x fesc ≡ true → escape_step l ≡ Some k → Goes (x ∷ l) k
unfolding heard escape_step
goes_two x [] k f e s = cc
goes_two x (y ∷ l) k f e s =
    by (eqb y tfend)
    (λ a. let t = rw a at s in
    let is : Escaped fend ≡ k = cc in
    rw (← is) (record { some = omega arith; wide = omega arith; short = omega arith; long = refl; is = rw (f, e, a) (more_joined fend (heard false l)) }))
    (λ a. by (eqb y tfesc)
    (λ b. let t = rw (a, b) at s in
    let is : Escaped fesc ≡ k = cc in
    rw (← is) (record { some = omega arith; wide = omega arith; short = omega arith; long = refl; is = rw (f, e, a, b) (more_joined fesc (heard false l)) }))
    (λ b. let t = rw (a, b) at s in cc))

pub goes : (l : List ℕ) (k : Step) → step_from l ≡ Some k → Goes l k
unfolding step_from
goes [] k e = cc
goes (x ∷ l) k e =
    by (eqb x fend)
    (λ a. let t = rw a at e in cc)
    (λ a. by (eqb x fesc)
    (λ b. goes_two x l k a b (rw (a, b) at e))
    (λ b. let t = rw (a, b) at e in
    let is : Plain (first special (x ∷ l)) ≡ k = cc in
    rw (← is) (goes_run x l a b)))

-- ---- the first pass
plus_joined : (n : ℕ) (d : List ℕ) (h : Result (List ℕ) KissError) → plus (n + length d) (measured h) ≡ plus n (measured (joined d h))
plus_joined n d (Ok t) = ap (λ (k : ℕ). Ok k) (omega (arith, length-append d t))
plus_joined n d (Err e) = refl

pub plus_none : (h : Result (List ℕ) KissError) → plus 0 (measured h) ≡ measured h
plus_none (Ok t) = ap (λ (k : ℕ). Ok k) (omega arith)
plus_none (Err e) = refl

pub measured_turn : (l : List ℕ) (k : Step) (n : ℕ) → step_from l ≡ Some k
    → plus (n + given_by k) (measured (heard false (take (length l - taken_by k) (drop (taken_by k) l)))) ≡ plus n (measured (heard false l))
measured_turn l k n e =
    let g = goes l k e in
    rw (part_from, g.is, ← g.long) (plus_joined n (data_of k l) (heard false (drop (taken_by k) l)))

-- ---- the second pass
joined_ok : (d : List ℕ) (h : Result (List ℕ) KissError) → is_ok (joined d h) ≡ true → (is_ok h ≡ true) × (octets_of (joined d h) ≡ d ++ octets_of h)
joined_ok d (Ok t) e = (refl, refl)
joined_ok d (Err x) e = absurd (false≢true e)

stopped_empty : (l : List ℕ) → is_ok (stopped_at l) ≡ true → octets_of (stopped_at l) ≡ []
unfolding stopped_at
stopped_empty [] e = absurd (false≢true e)
stopped_empty (x ∷ []) e = by (eqb x fend) (λ a. rw a refl) (λ a. rw a refl)
stopped_empty (x ∷ y ∷ l) e = by (eqb x fend) (λ a. rw a refl) (λ a. rw a refl)

-- the data of what is left is still to be written from place j on, up to place n
pub record Left (rest out : List ℕ) (j n : ℕ) (whole : List ℕ) : Type 0 where
  pub good : is_ok (heard false rest) ≡ true
  pub counts : j + length (octets_of (heard false rest)) ≡ n
  pub room : n ≤ length out
  pub is : splice out j (octets_of (heard false rest)) ≡ whole

some_else_none : (o : Option Step) → (o ≡ None → ⊥) → is_some o ≡ true
some_else_none (Some k) f = refl
some_else_none None f = absurd (f refl)

module _ (rest out : List ℕ) (j n : ℕ) (whole : List ℕ) (l : Left rest out j n whole) where
  module _ (k : Step) (e : step_from rest ≡ Some k) where
    abbrev d : List ℕ
    d = data_of k rest

    abbrev h : Result (List ℕ) KissError
    h = heard false (drop (taken_by k) rest)

    both : (is_ok h ≡ true) × (octets_of (heard false rest) ≡ d ++ octets_of h)
    both = rw (goes rest k e).is (joined_ok d h (rw (goes rest k e).is at l.good))

    parts : j + length d + length (octets_of h) ≡ n
    parts = omega (arith, l.counts, ap length both.1, length-append d (octets_of h))

    -- the next step has room
    pub left_room : j + length d ≤ length out
    left_room = omega (arith, l.room, parts)

    pub left_turn : (out₁ : List ℕ) → out₁ ≡ splice out j d
        → Left (take (length rest - taken_by k) (drop (taken_by k) rest)) out₁ (j + given_by k) n whole
    left_turn out₁ f =
        let g = goes rest k e in
        let fits : j + length d + length (octets_of h) ≤ length out = omega (arith, l.room, parts) in
        rw (part_from, f, ← g.long) (record {
          good = both.0;
          counts = parts;
          room = rw splice-length l.room;
          is = splice-then out j (length d) d (octets_of h) refl fits ∙ ap (splice out j) (sym both.1) ∙ l.is;
        })

  -- where octets are still to be written, there is a step
  pub left_some : j < n → is_some (step_from rest) ≡ true
  left_some more =
      some_else_none (step_from rest) (λ e.
      let none = stopped_empty rest (rw (stops rest e) at l.good) in
      let counts = rw (stops rest e, none) at l.counts in
      omega (arith, counts))

  -- where there is none, all is written
  pub left_none : step_from rest ≡ None → out ≡ whole
  left_none e =
      let n = stopped_empty rest (rw (stops rest e) at l.good) in
      sym (splice_none out j) ∙ (rw (stops rest e, n) at l.is)

  -- and so it is once the writing has come to the place that was measured
  pub left_done : n ≤ j → out ≡ whole
  left_done done =
      let none : octets_of (heard false rest) ≡ [] = nil_from_length _ (omega (arith, l.counts)) in
      sym (splice_none out j) ∙ (rw none at l.is)
