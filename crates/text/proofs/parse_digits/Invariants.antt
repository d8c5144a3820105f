-- `parse_digits` gives the number. The invariant: what is left decides whether all are digits and, with the value so far, which number.
use Rattle.std.proofs.Common.{◌≡◌, ◌≤◌, drop}
use Rattle.octets.specs.All.{all}
use Rattle.text.specs.Text.{digit, decimal_from, decimal}
use Rattle.text.proofs.parse_digits.Given as goal

abbrev pub invariant-loop-digit : goal.invariant-loop-digit
invariant-loop-digit l =
    record { small : l.value ≤ 255; digits : all digit (drop l.digit-index l.text) ≡ all digit l.text; number : decimal_from l.value (drop l.digit-index l.text) ≡ decimal l.text }
