-- Laws of what is put on a page of n octets, whose text is cut off behind these, and of a page written to a lent buffer.
use Rattle.std.proofs.Common.{ℕ, ◌≡◌, refl, zero-add, ap, sym, ◌∙◌, ◌+◌, ◌≤◌, ◌<◌, ◌-◌, List, [], ◌++◌, length, take, drop, replicate, min, unwrap_or, arith, length-append, ltb, cond, Some, None}
use Rattle.std.proofs.lemmas.List.{drop-replicate, take_min, take_all, take_at, take-take, take-append-le, length-take-le, append_assoc}
use Rattle.std.proofs.Math.Seq.{take-append-add, drop-append_seam, drop-drop}
use Rattle.octets.specs.Splice.{splice}
use Rattle.octets.proofs.Splice.{splice_in}
use Rattle.octets.proofs.Choice.{by, either}
use lib.Dec.{leb}
use borrow.Author.Tests.{leb-true, leb-false, ltb-false}
use Rattle.words.specs.Room.{cut, fitting, behind}

-- a part put behind a text of `at` octets, as far as there is room
pub put_on : (n at : ℕ) (letters part : List ℕ) → length letters ≡ n → at ≤ n
    → take (at + min (n - at) (length part)) (splice letters at (take (min (n - at) (length part)) part)) ≡ cut n (take at letters ++ part)
unfolding cut
put_on n at letters part long h =
    let k : ℕ = min (n - at) (length part) in
    let front : List ℕ = take at letters in
    let most : k ≤ length part = omega arith in
    let fits : at + k ≤ n = omega arith in
    let p : length (take k part) ≡ k = length-take-le k part most in
    let f : length front ≡ at = length-take-le at letters (omega arith) in
    let both : length (front ++ take k part) ≡ at + k = length-append front (take k part) ∙ omega arith in
    let all : take n (front ++ part) ≡ front ++ take (n - at) part =
    ap (λ i. take i (front ++ part)) (omega arith) ∙ take-append-add front part (n - at) in
    rw (splice_in letters at (take k part) (omega arith), ← append_assoc front (take k part), take_at (front ++ take k part) _ (at + k) both, all, take_min) refl

-- behind it there are zeros, as there were
pub zeros_behind : (n at : ℕ) (letters part : List ℕ) → length letters ≡ n → at + length part ≤ n → drop at letters ≡ replicate (n - at) 0
    → drop (at + length part) (splice letters at part) ≡ replicate (n - (at + length part)) 0
zeros_behind n at letters part long h e =
    let p : List ℕ = take at letters ++ part in
    let q : List ℕ = drop (at + length part) letters in
    let lp : length p ≡ at + length part = length-append (take at letters) part ∙ ap (λ (k : ℕ). k + length part) (length-take-le at letters (omega arith)) in
    let rest : drop (at + length part) (p ++ q) ≡ q = ap (λ (k : ℕ). drop k (p ++ q)) (sym lp) ∙ drop-append_seam p q in
    let zeros : q ≡ replicate (n - (at + length part)) 0 =
    sym (drop-drop (length part) at letters) ∙ rw (e, drop-replicate) (ap (λ (k : ℕ). replicate k 0) (omega arith)) in
    rw (splice_in letters at part (omega arith), ← append_assoc (take at letters) part q, rest) zeros

-- what is cut off twice
pub cut_then : (n : ℕ) (t b : List ℕ) → cut n (cut n t ++ b) ≡ cut n (t ++ b)
unfolding cut
cut_then n t b =
    by (leb (length t) n)
    (λ e. rw (take_all n t (leb-true _ _ e)) refl)
    (λ e.
    let h : n < length t = leb-false _ _ e in
    take-append-le n (take n t) b (omega (arith, length-take-le n t (omega arith)))
    ∙ take-take n n t (omega arith) ∙ sym (take-append-le n t b (omega arith)))

-- where all of it has room, nothing is cut off
pub cut_none : (n : ℕ) (t : List ℕ) → length t ≤ n → cut n t ≡ t
unfolding cut
cut_none n t h = take_all n t h

-- the length of a text that fits, and nothing of one that does not
pub fitting_is : (room : ℕ) (t : List ℕ) → fitting room t ≡ cond (ltb room (length t)) None (Some (length t))
unfolding fitting
fitting_is room t = refl

-- what is written of a page, as the place behind it
pub place_behind : (room : ℕ) (t : List ℕ) → unwrap_or (fitting room t) 0 ≡ behind room 0 t
unfolding fitting behind
place_behind room t = by (ltb room (length t)) (λ e. rw (zero-add, e) refl) (λ e. rw (zero-add, e) refl)

-- it is never behind the room
pub behind-most : (room : ℕ) (t : List ℕ) → behind room 0 t ≤ room
unfolding behind
behind-most room t =
    either (λ (n : ℕ). n ≤ room) (ltb room (0 + length t)) (λ _. omega arith) (λ e. ltb-false room (0 + length t) e)

-- of no text it is the place itself
pub behind_none : (room at : ℕ) → behind room at [] ≡ at
unfolding behind
behind_none room at = either (λ (n : ℕ). n ≡ at) (ltb room (at + 0)) (λ _. refl) (λ _. omega arith)
