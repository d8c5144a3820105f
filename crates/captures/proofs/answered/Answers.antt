-- The part's outline has decoding's answer, and there is no reason against it exactly where the part is canonical.
use Prim.Native.Nat.{ℕ, ◌+◌, ◌-◌}
use mathlib.Core.Path.{◌≡◌, refl, ap}
use mathlib.Core.List.{List}
use native.Mathlib.Omega.{arith}
use lib.ListN.{take, drop}
use Rattle.octets.specs.Octet.{Octets}
use Rattle.octets.proofs.Octet.{octets-take, octets-drop}
use Rattle.decode.proofs.Read.{number_with}
use Rattle.reason.specs.declared.Judged.{Judged}
use Rattle.spelling.proofs.Laws.{canonical_none}
use Rattle.captures.specs.Capture.{part_of, answered}
use Rattle.captures.proofs.Laws.{inside-ends}
use borrow.Author.Rules.{rules}
use Rattle.captures.proofs.answered.Goals as goal

pub overflow_add-end : goal.overflow_add-end
overflow_add-end c = omega (arith, inside-ends _ _ c.requires)

pub slice_bounds-part-end : goal.slice_bounds-part-end
slice_bounds-part-end c = inside-ends _ _ c.requires

pub kind_by-requires : goal.kind_by-requires
kind_by-requires c = ap (λ (j : Judged). j.outline) c.judge-judged.ensures

pub returns : goal.returns
unfolding answered
returns c =
    let a = c.args in
    let part : List ℕ = part_of a.input.now a.capture in
    let octets : Octets part =
    octets-take (drop a.capture.start a.input.now) a.capture.length (octets-drop a.input.now a.capture.start (λ k. search rules)) in
    let long : a.capture.start + a.capture.length - a.capture.start ≡ a.capture.length = omega arith in
    let is : take (a.capture.start + a.capture.length - a.capture.start) (drop a.capture.start a.input.now) ≡ part =
    ap (λ (n : ℕ). take n (drop a.capture.start a.input.now)) long in
    rw (c.kind_by.ensures, c.one_if_none.ensures, c.number.ensures, c.judge-judged.ensures, is, number_with, canonical_none a.mode part octets) refl
