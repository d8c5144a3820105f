-- Two stores, one after the other.
use Rattle.std.proofs.Common.{[], ◌∷◌, ◌+◌, sym, ◌∙◌, set, arith, length-set}
use Rattle.octets.proofs.Splice.{splice_one, splice-cons}
use Rattle.escapes.specs.Escape.{fesc}
use Rattle.kiss.proofs.put_escape.Goals as goal

pub returns : goal.returns
returns c =
    let l = c.args.out.now in
    let at = c.args.at in
    sym (splice_one (set l at fesc) (at + 1) c.args.second (rw length-set (omega arith)))
    ∙ splice-cons l at fesc (c.args.second ∷ []) (omega arith)
