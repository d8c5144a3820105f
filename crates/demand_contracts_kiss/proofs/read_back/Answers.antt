-- The second call reads the octets that the first one left.
use Prim.Native.Nat.{ℕ, ◌≤◌}
use mathlib.Core.List.{List}
use mathlib.Core.Path.{◌≡◌, refl, sym}
use lib.ListN.{length}
use lib.Seq.{length-take-le}
use Rattle.octets.specs.Splice.{splice}
use Rattle.octets.proofs.Splice.{splice-length}
use Rattle.kiss.specs.Write.{octets_written}
use Rattle.kiss.proofs.Laws.{written-room}
use Rattle.demands_kiss.proofs.Kiss.{kiss_round}
use Rattle.octets.proofs.Lent.{splice_start}
use Rattle.demand_contracts_kiss.proofs.read_back.Goals as goal

-- the length that the first call gave is within the line
within : (port : ℕ) (s line left : List ℕ) (n : ℕ) → left ≡ splice line 0 (octets_written port s (length line))
    → n ≡ length (octets_written port s (length line)) → n ≤ length left
within port s line left n e f = rw (e, f, splice-length line 0 (octets_written port s (length line))) (written-room port s (length line))

pub slice_bounds-ax25_kiss_read-end : goal.slice_bounds-ax25_kiss_read-end
slice_bounds-ax25_kiss_read-end c =
    let w = c.ax25_kiss_write.ensures in
    within _ _ _ _ _ w.output_after w.length_after

pub slice_bounds-ax25_kiss_read-end-2 : goal.slice_bounds-ax25_kiss_read-end-2
slice_bounds-ax25_kiss_read-end-2 c =
    let w = c.ax25_kiss_write.ensures in
    sym (length-take-le _ _ (within _ _ _ _ _ w.output_after w.length_after))

pub returns-clause-value : goal.returns-clause-value
returns-clause-value c =
    let w = c.ax25_kiss_write.ensures in
    let r = c.ax25_kiss_read.ensures in
    let s = c.args.input.now in
    let out = c.args.output.now in
    rw (r.value, r.output_after, r.port_after, r.length_after, w.output_after, w.length_after)
    (λ z h. rw (kiss_round c.args.port s c.args.line.now (length out) z h) (refl, refl, refl, splice_start out s h))

pub returns-clause-value_2 : goal.returns-clause-value_2
returns-clause-value_2 c =
    let w = c.ax25_kiss_write.ensures in
    let r = c.ax25_kiss_read.ensures in
    rw (r.value, r.output_after, r.port_after, r.length_after, w.output_after, w.length_after) (refl, refl, refl, refl)
