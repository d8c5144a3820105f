-- Octet by octet: a character read and written again is its octet with the low bit clear.
use Prim.Native.Nat.{ℕ, ◌+◌, ◌*◌, ◌/◌, ◌%◌, ◌≤◌, ◌<◌}
use mathlib.Core.Path.{◌≡◌, ap, sym, ◌∙◌}
use mathlib.Core.Bool.{Bool}
use mathlib.Core.List.{List, [], ◌∷◌}
use native.Mathlib.Omega.{arith}
use lib.Bits.{bit_and}
use lib.Dec.{lit<, lit≤}
use lib.ListN.{length, get_or}
use mir.Syntax.{w64}
use mir.Val.{Fits}
use Rattle.octets.specs.Octet.{Octets}
use Rattle.octets.specs.Splice.{splice}
use Rattle.octets.proofs.Octet.{octet-same}
use Rattle.octets.proofs.Place.{seven_at}
use Rattle.octets.proofs.Splice.{splice_none}
use Rattle.group.specs.Group.{ssid_octet}
use Rattle.group.proofs.Laws.{group-again}
use Rattle.placing.specs.Put.{respelled}
use Rattle.placing.proofs.Laws.{respelled_in, respelled_out}
use Rattle.placing.proofs.Places.{within, fits}
use borrow.Author.Rules.{rules}
use Rattle.placing.proofs.respell.Goals as goal
use Rattle.placing.proofs.respell.Goals.{Else-len-from}

abbrev even : ℕ → ℕ
even b = bit_and b 0xFE

even-again : (b : ℕ) → b < 256 → even b ≡ b / 2 * 2 % 256
even-again b h = octet-same even (λ n. n / 2 * 2 % 256) tt b h

octets-again : (s : List ℕ) (from : ℕ) (m e : Bool) → Octets s → from + 7 ≤ length s
    → even (get_or s from 0) ∷ even (get_or s (from + 1) 0) ∷ even (get_or s (from + 2) 0) ∷ even (get_or s (from + 3) 0)
    ∷ even (get_or s (from + 4) 0) ∷ even (get_or s (from + 5) 0) ∷ ssid_octet (get_or s (from + 6) 0 / 2) (get_or s (from + 6) 0 / 32) m e ∷ []
    ≡ respelled s from m e
octets-again s from m e o h =
    let v : (k : ℕ) → even (get_or s k 0) ≡ get_or s k 0 / 2 * 2 % 256 = λ k. even-again (get_or s k 0) (o k) in
    rw (respelled_in s from m e h, ← seven_at s from h, group-again) (simp v)

-- the seven octets are there, and their numbers fit
inside : (c : Else-len-from) → let a = c.args in a.from + 7 ≤ length a.bytes.now
inside c = omega arith

last_fits : (c : Else-len-from) → Fits w64 (c.args.from + 7)
last_fits c = search rules

pub returns-then-len-lt7 : goal.returns-then-len-lt7
returns-then-len-lt7 c =
    let a = c.args in
    sym (rw (respelled_out a.bytes.now a.from _ _ (omega arith)) (splice_none _ _))

pub returns-then-len-from : goal.returns-then-len-from
returns-then-len-from c =
    let a = c.args in
    sym (rw (respelled_out a.bytes.now a.from _ _ (omega arith)) (splice_none _ _))

pub overflow_add-read : goal.overflow_add-read
overflow_add-read c = fits _ 6 (lit≤ tt) (last_fits (goal.at.overflow_add-read c).Else-len-from)

pub bounds-bytes-from : goal.bounds-bytes-from
bounds-bytes-from c = within _ 6 _ (lit< tt) (inside (goal.at.bounds-bytes-from c).Else-len-from)

pub overflow_add-from : goal.overflow_add-from
overflow_add-from c = fits _ 1 (lit≤ tt) (last_fits (goal.at.overflow_add-from c).Else-len-from)

pub bounds-bytes-from-3 : goal.bounds-bytes-from-3
bounds-bytes-from-3 c = within _ 1 _ (lit< tt) (inside (goal.at.bounds-bytes-from-3 c).Else-len-from)

pub overflow_add-from-2 : goal.overflow_add-from-2
overflow_add-from-2 c = fits _ 2 (lit≤ tt) (last_fits (goal.at.overflow_add-from-2 c).Else-len-from)

pub bounds-bytes-from-4 : goal.bounds-bytes-from-4
bounds-bytes-from-4 c = within _ 2 _ (lit< tt) (inside (goal.at.bounds-bytes-from-4 c).Else-len-from)

pub overflow_add-from-3 : goal.overflow_add-from-3
overflow_add-from-3 c = fits _ 3 (lit≤ tt) (last_fits (goal.at.overflow_add-from-3 c).Else-len-from)

pub bounds-bytes-from-5 : goal.bounds-bytes-from-5
bounds-bytes-from-5 c = within _ 3 _ (lit< tt) (inside (goal.at.bounds-bytes-from-5 c).Else-len-from)

pub overflow_add-from-4 : goal.overflow_add-from-4
overflow_add-from-4 c = fits _ 4 (lit≤ tt) (last_fits (goal.at.overflow_add-from-4 c).Else-len-from)

pub bounds-bytes-from-6 : goal.bounds-bytes-from-6
bounds-bytes-from-6 c = within _ 4 _ (lit< tt) (inside (goal.at.bounds-bytes-from-6 c).Else-len-from)

pub overflow_add-from-5 : goal.overflow_add-from-5
overflow_add-from-5 c = fits _ 5 (lit≤ tt) (last_fits (goal.at.overflow_add-from-5 c).Else-len-from)

pub bounds-bytes-from-7 : goal.bounds-bytes-from-7
bounds-bytes-from-7 c = within _ 5 _ (lit< tt) (inside (goal.at.bounds-bytes-from-7 c).Else-len-from)

pub returns : goal.returns
returns c =
    let a = c.args in
    let o : Octets a.bytes.now = λ n. (c.type_inv.bytes n).fits in
    c.store.ensures.out_after
    ∙ rw c.ssid_octet-last.ensures (ap (splice a.out.now a.at) (octets-again a.bytes.now a.from _ _ o (inside (goal.at.returns c).Else-len-from)))
