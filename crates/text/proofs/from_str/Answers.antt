-- `from_str` makes the tests in the table's order: the SSID's text comes before the callsign.
use Rattle.std.proofs.Common.{◌≡◌, ◌≤◌, ◌+◌, ℕ, List, count_by, false, sym, ◌∙◌, arith, lt-ltb, le-ltb}
use Rattle.octets.proofs.Library.{count-library, position-first}
use Rattle.octets.proofs.Splice.{part_from}
use Rattle.text.specs.Text.{hyphen, many_hyphens, read_text}
use Rattle.octets.specs.Count.{count}
use Rattle.text.proofs.Reading.{read_without, read_number, read_strange}
use Rattle.text.proofs.from_str.Goals as goal

few : (t : List ℕ) (n : ℕ) → n ≡ count_by hyphen t → n ≤ 1 → many_hyphens t ≡ false
few t n e h = le-ltb 1 (count hyphen t) (omega (arith, e, count-library hyphen t))

pub returns-then-not-is_ascii : goal.returns-then-not-is_ascii
unfolding read_text
returns-then-not-is_ascii c = simp (sym c.is_ascii.ensures ∙ c.if-not-is_ascii.true)

pub returns-then-hyphens-gt1 : goal.returns-then-hyphens-gt1
unfolding read_text
returns-then-hyphens-gt1 c =
    simp (
      sym c.is_ascii.ensures ∙ c.if-not-is_ascii.false,
      ← count-library,
      ← c.hyphens.ensures,
      lt-ltb 1 c.hyphens.result (omega arith),
    )

pub returns-in_default : goal.returns-in_default
returns-in_default c =
    let t = c.args.text.now in
    let none = rw c.in_default.is at (position-first hyphen t _ c.first_hyphen.ensures) in
    c.read_callsign.ensures ∙ sym (read_without t (sym c.is_ascii.ensures ∙ c.if-not-is_ascii.false) (few t c.hyphens.result c.hyphens.ensures (omega arith)) none)

pub returns-in-Some-parse_ssid : goal.returns-in-Some-parse_ssid
returns-in-Some-parse_ssid c =
    let t = c.args.text.now in
    let some = rw c.in-Some.is at (position-first hyphen t _ c.first_hyphen.ensures) in
    let said = rw (part_from t (c.in-Some.at + 1)) at c.in-Some-parse_ssid.ensures in
    c.read_callsign-in-Some-parse_ssid.ensures
    ∙ sym
    (read_number t (sym c.is_ascii.ensures ∙ c.if-not-is_ascii.false) (few t c.hyphens.result c.hyphens.ensures (omega arith))
    c.in-Some.at some.0 some.1 c.in-Some-parse_ssid.ssid said)

pub returns-in-None : goal.returns-in-None
returns-in-None c =
    let t = c.args.text.now in
    let some = rw c.in-Some.is at (position-first hyphen t _ c.first_hyphen.ensures) in
    let said = rw (part_from t (c.in-Some.at + 1)) at c.in-None.ensures in
    sym
    (read_strange t (sym c.is_ascii.ensures ∙ c.if-not-is_ascii.false) (few t c.hyphens.result c.hyphens.ensures (omega arith))
    c.in-Some.at some.0 some.1 said)
