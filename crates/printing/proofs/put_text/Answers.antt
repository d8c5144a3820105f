-- `put_text` writes the callsign without its padding, then the SSID after it.
use Prim.Native.Nat.{◌≤◌}
use mathlib.Core.Path.{◌≡◌, sym, ◌∙◌}
use native.Mathlib.Omega.{arith}
use borrow.Author.Rules.{rules}
use lib.ListN.{length}
use lib.Seq.{length-take-le}
use Rattle.octets.proofs.Splice.{splice_out}
use Rattle.printing.specs.Print.{used, ssid_suffix, text_of}
use Rattle.printing.proofs.Laws.{used_le, suffix-short, text-length, text-put}
use Rattle.printing.proofs.put_text.Goals as goal

pub overflow_add-length : goal.overflow_add-length
overflow_add-length c =
    let a = c.args.address in
    let six : length a.callsign ≡ 6 = search rules in
    let e : c.callsign_length-n.result ≡ used a.callsign = c.callsign_length-n.ensures in
    let f : c.suffix_length.result ≡ length (ssid_suffix a.ssid) = c.suffix_length.ensures in
    record { fits = omega (arith, used_le a.callsign, suffix-short a.ssid) }

pub returns-then-out-length : goal.returns-then-out-length
returns-then-out-length c =
    let g = c.args in
    let a = g.address in
    let l = text-length a.callsign a.ssid _ c.callsign_length-n.ensures _ c.suffix_length.ensures in
    record { value = l; out_after = sym (splice_out g.out.now 0 (text_of a) (omega (arith, l))) }

pub slice_bounds-callsign-end : goal.slice_bounds-callsign-end
slice_bounds-callsign-end c = rw c.callsign_length-n.ensures (used_le _)

pub slice_bounds-put-end : goal.slice_bounds-put-end
slice_bounds-put-end c =
    let s = c.args.address.callsign in
    let h : c.callsign_length-n.result ≤ length s = rw c.callsign_length-n.ensures (used_le s) in
    sym (length-take-le _ s h)

pub returns : goal.returns
returns c =
    let g = c.args in
    let a = g.address in
    let n = c.callsign_length-n in
    let l = text-length a.callsign a.ssid _ n.ensures _ c.suffix_length.ensures in record {
      value = l;
      out_after = c.put_suffix.ensures
          ∙ rw c.put.ensures (text-put a.callsign a.ssid n.result n.ensures g.out.now (rw (← c.suffix_length.ensures) (omega arith)));
    }
