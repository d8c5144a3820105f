-- The three ways of going on.
use Rattle.std.proofs.Common.{◌≡◌, ◌≤◌, length, get_or, take, refl, ap, sym, arith}
use lib.Seq.{length-take-le}
use Rattle.octets.proofs.First.{first_le}
use Rattle.octets.proofs.Splice.{part_from}
use Rattle.escapes.specs.Escape.{fend, fesc, special}
use Rattle.kiss.proofs.Laws.{next_fend, next_fesc, next_plain, next_fits}
use Rattle.kiss.specs.Steps.{next_count, next_octets}
use Rattle.kiss.proofs.put_next.Goals as goal
use Rattle.kiss.proofs.put_next.Goals.{After-plain_len-run}

pub put_escape-requires : goal.put_escape-requires
put_escape-requires c =
    let o = next_fend c.args.rest.now c.requires.some c.in-192.is in
    omega (arith, ap length o.1, next_fits c.args.rest.now c.requires.some)

pub returns-in-192 : goal.returns-in-192
returns-in-192 c =
    let o = next_fend c.args.rest.now c.requires.some c.in-192.is in
    rw (o.0, o.1) (record { rest = part_from c.args.rest.now 1; place = refl; out_after = c.put_escape.ensures })

pub put_escape-requires-in-219 : goal.put_escape-requires-in-219
put_escape-requires-in-219 c =
    let o = next_fesc c.args.rest.now c.requires.some c.in-219.is in
    omega (arith, ap length o.1, next_fits c.args.rest.now c.requires.some)

pub returns-in-219 : goal.returns-in-219
returns-in-219 c =
    let o = next_fesc c.args.rest.now c.requires.some c.in-219.is in
    rw (o.0, o.1) (record { rest = part_from c.args.rest.now 1; place = refl; out_after = c.put_escape-in-219.ensures })

-- the run is the next part, and it ends within the data
run : (c : After-plain_len-run) → let s = c.args.rest.now in
    let n = c.plain_len-run.result in (next_count s ≡ n) × (next_octets s ≡ take n s) × (n ≤ length s)
run c =
    let s = c.args.rest.now in
    let a : get_or s 0 0 ≡ fend → ⊥ = λ e. omega arith in
    let b : get_or s 0 0 ≡ fesc → ⊥ = λ e. omega arith in
    let o = next_plain s c.requires.some a b in
    rw c.plain_len-run.ensures (o.0, o.1, first_le special s)

pub slice_bounds-put-end : goal.slice_bounds-put-end
slice_bounds-put-end c = sym (length-take-le _ _ (run (goal.at.slice_bounds-put-end c).After-plain_len-run).2)

pub slice_bounds-result-count-in_default : goal.slice_bounds-result-count-in_default
slice_bounds-result-count-in_default c = (run (goal.at.slice_bounds-result-count-in_default c).After-plain_len-run).2

pub slice_bounds-result-start-in_default : goal.slice_bounds-result-start-in_default
slice_bounds-result-start-in_default c = (run (goal.at.slice_bounds-result-start-in_default c).After-plain_len-run).2

pub overflow_add-result-in_default : goal.overflow_add-result-in_default
overflow_add-result-in_default c =
    let s = c.args.rest.now in
    let r = run (goal.at.overflow_add-result-in_default c).After-plain_len-run in
    omega (arith, ap length r.1, length-take-le c.plain_len-run.result s r.2, next_fits s c.requires.some)

pub returns-in_default : goal.returns-in_default
returns-in_default c =
    let s = c.args.rest.now in
    let r = run (goal.at.returns-in_default c).After-plain_len-run in
    rw (r.0, r.1, length-take-le c.plain_len-run.result s r.2) (record { rest = part_from s c.plain_len-run.result; place = refl; out_after = c.put.ensures })
