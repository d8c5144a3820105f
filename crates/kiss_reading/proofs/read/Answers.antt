-- A refusal leaves all as it was; what is accepted is copied where it has room.
use Rattle.std.proofs.Common.{◌≡◌, refl, sym, ◌∙◌, length, arith}
use Rattle.std.proofs.lemmas.Result.{err_from_is_err_and}
use Rattle.octets.proofs.Splice.{splice_none, part_from}
use Rattle.kiss_reading.specs.Read.{read_packet, read_into}
use Rattle.kiss_reading.proofs.Judged.{told-refused, told-accepted, into-refused, into-short, into_fits, data-heard}
use Rattle.kiss_reading.proofs.read.Goals as goal

pub returns-in_err-read : goal.returns-in_err-read
returns-in_err-read c =
    let s = c.args.input.now in
    let e = told-refused (read_packet s) _ c.in_err-read.ensures in
    let p = err_from_is_err_and c.from_residual.result c.from_residual.ensures.1 in
    rw (p.1, p.2, into-refused s (length c.args.out.now) _ e) (record { value = refl; out_after = sym (splice_none _ _) })

pub returns-then-out-read : goal.returns-then-out-read
returns-then-out-read c =
    let s = c.args.input.now in
    let t = told-accepted (read_packet s) _ c.in_ok-read.ensures in
    rw (into-short s (length c.args.out.now) (omega (arith, t.1))) (record { value = refl; out_after = sym (splice_none _ _) })

pub returns : goal.returns
returns c =
    let s = c.args.input.now in
    let t = told-accepted (read_packet s) _ c.in_ok-read.ensures in
    let i : read_into s (length c.args.out.now) ≡ read_packet s = into_fits s (length c.args.out.now) (omega (arith, t.1)) in
    rw i (record { value = c.in_ok-read.ensures; out_after = c.copy.ensures ∙ rw (part_from, (data-heard s t.0).1) refl })
