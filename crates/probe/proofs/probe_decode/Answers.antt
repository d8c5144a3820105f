-- What was decoded, put where it is lent.
use Rattle.std.proofs.Common.{◌≡◌, ◌∙◌, refl, sym}
use Rattle.control.specs.Mode.{mode_of}
use Rattle.probe.proofs.Laws.{Shown, decode_shown}
use Rattle.probe.proofs.probe_decode.Goals as goal

pub returns : goal.returns
returns c =
    let s = decode_shown c.from.result c.args.input.now in
    record {
      value = rw (← c.from.ensures, ← s.number, ← c.from_bytes.ensures) c.put_decoded.ensures.value;
      flat_after = rw (← c.from.ensures) (rw (c.from_bytes.ensures, s.number, s.frame) at c.put_decoded.ensures.flat_after);
      places_after = rw (← c.from.ensures, ← s.places, ← c.from_bytes.ensures) c.put_decoded.ensures.places_after;
    }
