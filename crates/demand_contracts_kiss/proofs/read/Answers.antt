-- What the call gives is the definition's, of which the request is proved.
use mathlib.Core.Path.{refl}
use lib.ListN.{length}
use Rattle.demands_kiss.proofs.Kiss.{kiss_reading, refused_kiss_read, accepted_kiss_read, data_left}
use borrow.Author.Rules.{rules}
use Rattle.demand_contracts_kiss.proofs.read.Goals as goal

pub returns-clause-first_row : goal.returns-clause-first_row
returns-clause-first_row c = rw c.ax25_kiss_read.ensures.value ((kiss_reading c.args.input.now (length c.args.output.now) _).0 refl)

pub returns-clause-port_after : goal.returns-clause-port_after
returns-clause-port_after c =
    let e = c.ax25_kiss_read.ensures in
    let out = c.args.output.now in
    rw (e.value, e.output_after, e.port_after, e.length_after)
    (λ n. let f = refused_kiss_read c.args.input.now (length out) n in (f.0, f.1, f.2 out))

pub returns-clause-port_bound : goal.returns-clause-port_bound
returns-clause-port_bound c =
    let e = c.ax25_kiss_read.ensures in
    let s = c.args.input.now in
    let out = c.args.output.now in
    rw (e.value, e.output_after, e.port_after, e.length_after)
    (λ z. let f = accepted_kiss_read s out (λ j. search rules) z in
    let d = data_left s out z in
    (f.0, rw d f.1, rw d f.2))
