-- Where all three parts fit, each is put where the one before it ends.
use Rattle.std.proofs.Common.{◌≡◌, ◌+◌, ◌-◌, ◌≤◌, ◌<◌, ◌++◌, ℕ, List, length, take, drop, true, false, refl, sym, ◌∙◌, arith, length-append}
use borrow.Author.Tests.{ltb-true, ltb-false}
use Rattle.octets.proofs.Splice.{splice_out, part_from}
use Rattle.words.specs.Words.{five_digits, leading, decimal}
use Rattle.words.proofs.Put.{behind_in, behind_out, put_three}
use Rattle.words.proofs.put_number.Goals as goal
use Rattle.words.proofs.put_number.Goals.{After-lack_room}

-- the digits that are shown are the number's
shown : (d : List ℕ) (l n : ℕ) → d ≡ five_digits n → l ≡ leading n → take (5 - l) (drop l d) ≡ decimal n
shown d l n e k = rw (e, k) (part_from (five_digits n) (leading n))

number : (c : After-lack_room) → take (5 - c.leading.result) (drop c.leading.result c.five_digits-digits.result) ≡ decimal c.args.n
number c = shown _ _ _ c.five_digits-digits.ensures c.leading.ensures.value

-- all three parts in one, and what the test says of them
wanted : (c : After-lack_room) →
    let g = c.args in
    g.at + length (g.key.now ++ (decimal g.n ++ g.end.now)) ≡ g.at + (length g.key.now + (length (decimal g.n) + length g.end.now))
wanted c =
    let g = c.args in
    omega (arith, length-append g.key.now (decimal g.n ++ g.end.now), length-append (decimal g.n) g.end.now)

fits : (c : After-lack_room) → c.lack_room.result ≡ false →
    let g = c.args in
    g.at + length (g.key.now ++ (decimal g.n ++ g.end.now)) ≤ length g.out.now
fits c e =
    let g = c.args in
    let h : g.at + (length g.key.now + (length (decimal g.n) + length g.end.now)) ≤ length g.out.now =
    ltb-false _ _ (sym (rw (number c) at c.lack_room.ensures) ∙ e) in
    omega (arith, wanted c, h)

lacks : (c : After-lack_room) → c.lack_room.result ≡ true →
    let g = c.args in
    length g.out.now < g.at + length (g.key.now ++ (decimal g.n ++ g.end.now))
lacks c e =
    let g = c.args in
    let h : length g.out.now < g.at + (length g.key.now + (length (decimal g.n) + length g.end.now)) =
    ltb-true _ _ (sym (rw (number c) at c.lack_room.ensures) ∙ e) in
    omega (arith, wanted c, h)

pub returns-then-lack_room : goal.returns-then-lack_room
returns-then-lack_room c =
    let h = lacks (goal.at.returns-then-lack_room c).After-lack_room c.if-lack_room.true in
    record { out_after = sym (splice_out _ _ _ h); value = sym (behind_out _ _ _ h) }

pub returns : goal.returns
returns c =
    let g = c.args in
    let a = (goal.at.returns c).After-lack_room in
    let f = fits a c.if-lack_room.false in
    let all = put_three g.out.now g.at g.key.now (decimal g.n) g.end.now f (c.put.ensures, refl) (rw (number a) at c.put-2.ensures, refl) (rw (number a) at c.put-3.ensures, refl) in
    record { out_after = all.0; value = rw (number a) (all.1 ∙ sym (behind_in _ _ _ f)) }
