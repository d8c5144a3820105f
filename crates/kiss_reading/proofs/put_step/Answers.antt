use Rattle.std.proofs.Common.{sym, arith}
use Rattle.octets.proofs.Splice.{splice_one}
use Rattle.kiss_reading.proofs.put_step.Goals as goal

pub returns-in-Escaped : goal.returns-in-Escaped
returns-in-Escaped c =
    let room = rw c.in-Escaped.is at c.requires.room in
    rw c.in-Escaped.is (sym (splice_one c.args.out.now c.args.to c.in-Escaped.octet (omega arith)))
