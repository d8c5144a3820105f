-- What the call gives is the definition's, of which the request is proved.
use mathlib.Core.Path.{refl}
use lib.ListN.{length}
use Rattle.demands_kiss.proofs.Kiss.{kiss_writing, refused_kiss_write, accepted_kiss_write}
use Rattle.demand_contracts_kiss.proofs.wrote.Goals as goal

pub returns-clause-first_row : goal.returns-clause-first_row
returns-clause-first_row c =
    let room = length c.args.output.now in
    rw c.ax25_kiss_write.ensures.value
    ((kiss_writing c.args.port c.args.input.now room _).0 refl)

pub returns-clause-length_after : goal.returns-clause-length_after
returns-clause-length_after c =
    let e = c.ax25_kiss_write.ensures in
    let out = c.args.output.now in
    rw (e.value, e.output_after, e.length_after)
    (λ n. let f = refused_kiss_write c.args.port c.args.input.now (length out) n in (f.0, f.1 out))

pub returns-clause-length_after_2 : goal.returns-clause-length_after_2
returns-clause-length_after_2 c =
    let e = c.ax25_kiss_write.ensures in
    let out = c.args.output.now in
    rw (e.value, e.output_after, e.length_after)
    (λ z. accepted_kiss_write c.args.port c.args.input.now out z)
