-- The part that is copied is the group, the address layer reads it, and the stations are compared.
use Rattle.std.proofs.Common.{◌≡◌, ◌∙◌, refl, ap, ℕ, ◌+◌, ◌-◌, List, arith}
use Rattle.std.specs.Prelude.{take, drop}
use Rattle.grammar.proofs.Marks.{parsed_is}
use Rattle.relay.proofs.is_ours.Goals as goal

pub returns : goal.returns
returns c =
    let a = c.args in
    let long : a.at + 7 - a.at ≡ 7 = omega arith in
    let part = ap (λ (n : ℕ). take n (drop a.at a.bytes.now)) long in
    c.same_station.ensures ∙ rw (c.parse_address-due.ensures, c.copy_from_slice.ensures.after, part, parsed_is) refl
