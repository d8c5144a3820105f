-- The texts case by case, and their lengths.
use Prim.Native.Nat.{ℕ, ◌+◌, ◌≤◌, ◌<◌}
use mathlib.Core.Path.{◌≡◌, refl}
use mathlib.Core.Bool.{true, false}
use mathlib.Core.List.{List, [], ◌++◌}
use native.Mathlib.Omega.{arith}
use borrow.Author.Tests.{eq-eqb, ne_eqb, lt-ltb, le-ltb}
use lib.Dec.{eqb}
use lib.ListN.{length, length-append}
use Rattle.link.specs.Step.{step_of, sender_of}
use Rattle.link_frame.specs.declared.Side.{Side}
use Rattle.link_frame.specs.declared.Side.TheVariants.{A, B}
use Rattle.std.proofs.Common.{Option, Some, None}
use Rattle.link_record.specs.Record.{number_of}
use Rattle.octets.proofs.Choice.{either}
use Rattle.link_record.specs.declared.Link.{Link}
use Rattle.words.specs.Ascii.{ascii}
use Rattle.words.specs.Words.{decimal, line}
use Rattle.words.proofs.Laws.{decimal-short}
use Rattle.following.specs.Following.{answer_text, stops, from_text, gap_line, gap_text, offered_text, first_totals, last_totals, totals_text}

-- ---- what is printed
pub answer_none : (n : ℕ) → n ≡ 0 → answer_text n ≡ []
unfolding answer_text
answer_none n e = rw (eq-eqb n 0 e) refl

pub answer_some : (n : ℕ) → (n ≡ 0 → ⊥) → answer_text n ≡ line "answer=" (decimal n)
unfolding answer_text
answer_some n e = rw (ne_eqb n 0 e) refl

pub gap_none : (l m : Link) (s : List ℕ) → m.gaps ≤ l.gaps → gap_text l m s ≡ []
unfolding gap_text
gap_none l m s h = rw (le-ltb l.gaps m.gaps h) refl

pub gap_some : (l m : Link) (s : List ℕ) → l.gaps < m.gaps → gap_text l m s ≡ gap_line m.offered (sender_of l s)
unfolding gap_text
gap_some l m s h = rw (lt-ltb l.gaps m.gaps h) refl

pub offered-stops : (l : Link) (s : List ℕ) → stops (step_of l s).answer ≡ true → offered_text l s ≡ answer_text (number_of (step_of l s).answer)
unfolding offered_text
offered-stops l s e = rw e refl

pub offered_goes : (l : Link) (s : List ℕ) → stops (step_of l s).answer ≡ false → offered_text l s ≡ gap_text l (step_of l s).link s
unfolding offered_text
offered_goes l s e = rw e refl

-- ---- lengths: 96 octets hold the totals
line-short : (key : List ℕ) (n : ℕ) → length (key ++ (decimal n ++ ascii "\n")) ≤ length key + 6
line-short key n = omega (arith, length-append key (decimal n ++ ascii "\n"), length-append (decimal n) (ascii "\n"), decimal-short n)

pub first_short : (l : Link) → length (first_totals l) ≤ 48
unfolding first_totals
first_short l =
    let a : List ℕ = line "offered=" (decimal l.offered) in
    let b : List ℕ = line "in_order=" (decimal l.in_order) in
    let c : List ℕ = line "repeated=" (decimal l.repeated) in
    omega (arith, length-append a (b ++ c), length-append b c, line-short (ascii "offered=") l.offered, line-short (ascii "in_order=") l.in_order, line-short (ascii "repeated=") l.repeated)

pub last-short : (l : Link) (n : ℕ) → length (last_totals l n) ≤ 48
unfolding last_totals
last-short l n =
    let a : List ℕ = line "gaps=" (decimal l.gaps) in
    let b : List ℕ = line "outside=" (decimal l.outside) in
    let c : List ℕ = line "dropped=" (decimal n) in
    omega (arith, length-append a (b ++ c), length-append b c, line-short (ascii "gaps=") l.gaps, line-short (ascii "outside=") l.outside, line-short (ascii "dropped=") n)

pub totals-short : (l : Link) (n : ℕ) → length (totals_text l n) ≤ 96
totals-short l n = omega (arith, length-append (first_totals l) (last_totals l n), first_short l, last-short l n)

pub answer_short : (n : ℕ) → length (answer_text n) ≤ 32
unfolding answer_text
answer_short n = either (λ (t : List ℕ). length t ≤ 32) (eqb n 0) (λ _. omega arith) (λ _. omega (arith, line-short (ascii "answer=") n))

from-short : (s : Option Side) → length (from_text s) ≤ 8
from-short (Some A) = omega arith
from-short (Some B) = omega arith
from-short None = omega arith

pub gap_short : (place : ℕ) (s : Option Side) → length (gap_line place s) ≤ 32
gap_short place s =
    omega (arith, length-append (ascii "gap=") (decimal place ++ from_text s), length-append (decimal place) (from_text s), decimal-short place, from-short s)
