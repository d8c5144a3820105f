use Rattle.std.proofs.Common.{◌≡◌, ℕ, ◌+◌, ◌*◌, ◌-◌, ◌<◌, ◌&&◌, true, false, Some, None, List, length, get_or, drop, ap, sym, ◌∙◌, arith, rules}
use Rattle.octets.specs.All.{all}
use Rattle.octets.proofs.All.{all_step, all_end}
use Rattle.text.specs.Text.{digit, decimal_from, decimal, digits_say}
use Rattle.text.proofs.Reading.{decimal_step, decimal_end, decimal_least, say_none, say-strange, say_big, say-number}
use Rattle.text.proofs.parse_digits.Goals as goal

pub returns-then-is_empty : goal.returns-then-is_empty
returns-then-is_empty c = sym (say_none _ (search rules))

-- the test of all digits, from the one in hand on
turn : (t : List ℕ) (i : ℕ) → i < length t → all digit (drop i t) ≡ all digit t → all digit t ≡ (digit (get_or t i 0) && all digit (drop (i + 1) t))
turn t i h e = sym e ∙ all_step digit t i 0 h

pub returns-then-not-is_ascii_digit : goal.returns-then-not-is_ascii_digit
returns-then-not-is_ascii_digit c =
    let l = c.loop-digit in
    let t = c.args.text.now in
    let strange : digit (get_or t l.digit-index 0) ≡ false = search (rules, c.is_ascii_digit.ensures.value, c.if-not-is_ascii_digit.true) in
    sym (say-strange t (turn t l.digit-index c.loop-digit-test.true l.invariant.digits ∙ rw strange))

-- the number, once one digit more is read
onward : (t : List ℕ) (i v : ℕ) → i < length t → decimal_from v (drop i t) ≡ decimal t → decimal_from (v * 10 + (get_or t i 0 - 48)) (drop (i + 1) t) ≡ decimal t
onward t i v h e = sym (decimal_step t i v h) ∙ e

beyond : (t : List ℕ) (i v : ℕ) → i < length t → decimal_from v (drop i t) ≡ decimal t → 255 < v * 10 + (get_or t i 0 - 48) → None ≡ digits_say t
beyond t i v h e b = sym (say_big t (omega (arith, onward t i v h e, decimal_least (v * 10 + (get_or t i 0 - 48)) (drop (i + 1) t))))

pub returns-in_err-value : goal.returns-in_err-value
returns-in_err-value c =
    let l = c.loop-digit in
    c.from_residual.ensures ∙ beyond c.args.text.now l.digit-index l.value c.loop-digit-test.true l.invariant.number (omega (arith, c.in_err-value.ensures))

pub loop-digit-preserved : goal.loop-digit-preserved
loop-digit-preserved c =
    let l = c.loop-digit in
    let t = c.args.text.now in
    let here : digit (get_or t l.digit-index 0) ≡ true = search (rules, c.is_ascii_digit.ensures.value, c.if-not-is_ascii_digit.false) in
    let value : c.in_ok-value.value ≡ l.value * 10 + (get_or t l.digit-index 0 - 48) = omega (arith, c.in_ok-value.ensures) in
    record {
      small = omega arith;
      digits = sym (turn t l.digit-index c.loop-digit-test.true l.invariant.digits ∙ rw here);
      number = rw value (onward t l.digit-index l.value c.loop-digit-test.true l.invariant.number);
    }

pub returns : goal.returns
returns c =
    let l = c.loop-digit in
    let t = c.args.text.now in
    let d : decimal t ≡ l.value = sym l.invariant.number ∙ decimal_end t l.digit-index l.value c.loop-digit-test.false in
    sym
    (say-number t (search rules) (sym l.invariant.digits ∙ all_end digit t l.digit-index c.loop-digit-test.false) (omega arith)
    ∙ ap Some d)
