-- Each refusal by its own test; then the packet from its parts.
use Rattle.std.proofs.Common.{◌≡◌, ◌+◌, ◌*◌, ◌%◌, ◌≤◌, length, refl, sym, ◌∙◌, arith, leb-true, leb-false, set, length-set}
use Rattle.octets.specs.Count.{count}
use Rattle.octets.proofs.Splice.{splice_none}
use Rattle.escapes.specs.Escape.{fend, special}
use Rattle.kiss.specs.Packet.{type_of}
use Rattle.kiss.proofs.Laws.{escaped-length, packet-length, packet_parts, write_port, write-short, write_fits}
use Rattle.kiss.proofs.write.Goals as goal
use Rattle.kiss.proofs.write.Goals.{Else-not-fits}

-- there is room
room : (c : Else-not-fits) → 3 + length c.args.info.now + count special c.args.info.now ≤ length c.args.out.now
room c =
    let r = leb-true (3 + length c.args.info.now + c.count_special-found.result) (length c.args.out.now) (sym c.fits.ensures ∙ c.if-not-fits.false) in
    omega arith

pub returns-then-port-gt-LAST_PORT : goal.returns-then-port-gt-LAST_PORT
returns-then-port-gt-LAST_PORT c = rw (write_port _ _ _ c.if-port-gt-LAST_PORT.true) (record { value = refl; out_after = sym (splice_none _ _) })

pub returns-then-not-fits : goal.returns-then-not-fits
returns-then-not-fits c =
    let a = c.args in
    let short = leb-false (3 + length a.info.now + c.count_special-found.result) (length a.out.now) (sym c.fits.ensures ∙ c.if-not-fits.true) in
    let e = write-short a.port a.info.now (length a.out.now) c.if-port-gt-LAST_PORT.false
    (omega (arith, short, packet-length a.port a.info.now)) in
    rw e (record { value = refl; out_after = sym (splice_none _ _) })

pub put_escaped-requires : goal.put_escaped-requires
put_escaped-requires c =
    let a = c.args in
    rw (length-set (set a.out.now 0 fend) 1 (a.port * 16 % 256), length-set a.out.now 0 fend)
    (omega (arith, room (goal.at.put_escaped-requires c).Else-not-fits, escaped-length a.info.now))

pub returns : goal.returns
returns c =
    let a = c.args in
    let s = a.info.now in
    let out = a.out.now in
    let fits = room (goal.at.returns c).Else-not-fits in
    let type : a.port * 16 % 256 ≡ type_of a.port = omega arith in
    let e = write_fits a.port s (length out) c.if-port-gt-LAST_PORT.false (omega (arith, packet-length a.port s)) in
    rw e (record {
      value = rw (packet-length a.port s, c.count_special-found.ensures) refl;
      out_after = rw (c.put_escaped.ensures, c.count_special-found.ensures, type) (packet_parts out a.port s fits);
    })
