use Rattle.std.proofs.Common.{rules, sym, ap, length, arith}
use Rattle.std.proofs.lemmas.List.{length-take-le}
use Rattle.octets.proofs.Splice.{splice_out}
use Rattle.words.proofs.page.Page.write_to.Goals as goal

pub returns-then-out-self-clause-out_after : goal.returns-then-out-self-clause-out_after
returns-then-out-self-clause-out_after g c =
    let long = length-take-le c.self.inside.length c.self.inside.letters (search rules) in
    sym (splice_out _ 0 _ (omega (arith, long, ap length c.self.view_is, c.if-out-self.true)))
