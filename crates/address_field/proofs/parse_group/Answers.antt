-- The address layer reads the part that is copied.
use Rattle.std.proofs.Common.{◌≡◌, ◌∙◌, refl, ap, ℕ, ◌+◌, ◌-◌, arith}
use Rattle.std.specs.Prelude.{take, drop}
use Rattle.decode.specs.Read.{parsed_at}
use Rattle.address_field.proofs.parse_group.Goals as goal

pub returns : goal.returns
unfolding parsed_at
returns c =
    let a = c.args in
    let long : a.at + 7 - a.at ≡ 7 = omega arith in
    let part = ap (λ (n : ℕ). take n (drop a.at a.bytes.now)) long in
    c.parse_address.ensures ∙ rw (c.copy_from_slice.ensures.after, part) refl
