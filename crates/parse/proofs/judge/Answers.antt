-- S, U and I by the low two bits.
use Prim.Native.Nat.{◌<◌}
use mathlib.Core.Path.{ap, sym, ◌∙◌}
use borrow.Author.Rules.{rules}
use lib.ListN.{length, get_or}
use Rattle.octets.proofs.Bits.{low_mask}
use Rattle.parse.specs.Content.{content_of, judged}
use Rattle.parse.proofs.Judged.{of_s, of_u, of_i}
use Rattle.parse.proofs.judge.Goals as goal

pub returns-then-is_empty : goal.returns-then-is_empty
unfolding content_of
returns-then-is_empty c = search rules

pub returns-in-1 : goal.returns-in-1
returns-in-1 c =
    let s = c.args.bytes.now in
    let some : 0 < length s = search rules in
    c.judge_s.ensures ∙ ap judged (sym (of_s c.args.mode s some (sym (low_mask (get_or s 0 0) 2) ∙ c.in-1.is)))

pub returns-in-3 : goal.returns-in-3
returns-in-3 c =
    let s = c.args.bytes.now in
    let some : 0 < length s = search rules in
    c.judge_u.ensures ∙ ap judged (sym (of_u c.args.mode s some (sym (low_mask (get_or s 0 0) 2) ∙ c.in-3.is)))

pub returns-in_default : goal.returns-in_default
returns-in_default c =
    let s = c.args.bytes.now in
    let some : 0 < length s = search rules in
    c.judge_i.ensures ∙ ap judged (sym (of_i c.args.mode s some (λ e. search (rules, low_mask (get_or s 0 0) 2 ∙ e)) (λ e. search (rules, low_mask (get_or s 0 0) 2 ∙ e))))
