-- `pad` puts together the six characters.
use Rattle.std.proofs.Common.{◌≡◌, ℕ, ◌<◌, get_or, rules, lit<, sym}
use Rattle.address.proofs.Laws.{six_list}
use Rattle.text.specs.Text.{upper_at, padded}
use Rattle.text.proofs.pad.Goals as goal

pub returns : goal.returns
unfolding padded
returns c =
    let m = c.from_fn.ensures.items in
    let put : (k : ℕ) → k < 6 → get_or c.from_fn.result k 0 ≡ upper_at c.args.callsign.now k = λ k h. search (rules, (m.at k 0 h).2.met) in
    rw (put 0 (lit< tt), put 1 (lit< tt), put 2 (lit< tt), put 3 (lit< tt), put 4 (lit< tt), put 5 (lit< tt)) at (sym (six_list 0 c.from_fn.result m.long))
