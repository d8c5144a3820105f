use Rattle.std.proofs.Common.{rules, ◌≡◌, ◌+◌, ◌≤◌, length, take, arith}
use Rattle.std.proofs.lemmas.List.{length-take-le}
use Rattle.words.proofs.Room.{put_on, zeros_behind}
use Rattle.words.proofs.page.Page.put.Goals as goal

pub returns : goal.returns
returns g c =
    rw (c.put.ensures, c.min-taken.ensures, ← c.self.view_is) (put_on g.row.N _ _ _ (search rules) c.self.invariant.0)

pub invariant_of-self : goal.invariant_of-self
invariant_of-self g c =
    let n = g.row.N in
    let at = c.self.inside.length in
    let k = c.min-taken.result in
    let part = c.args.part.now in
    let most : k ≤ length part = omega (arith, c.min-taken.ensures) in
    let long : length (take k part) ≡ k = length-take-le k part most in
    let fits : at + k ≤ n = omega (arith, c.min-taken.ensures, c.self.invariant.0) in
    let zeros = zeros_behind n at c.self.inside.letters (take k part) c.self.told (rw long fits) c.self.invariant.1 in
    (fits, rw c.put.ensures (rw long at zeros))
