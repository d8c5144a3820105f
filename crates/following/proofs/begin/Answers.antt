use mathlib.Core.Path.{refl}
use Rattle.octets.proofs.Splice.{splice-length}
use Rattle.words.proofs.Room.{behind-most}
use Rattle.following.proofs.begin.Goals as goal

pub returns : goal.returns
returns c =
    let put = c.put_answer.ensures in
    let link = c.between-link.ensures in
    let number = c.number.ensures in
    record {
      value = rw (put.value, number, link) refl;
      out_after = rw (← link, ← number) put.out_after;
      length_in_bounds = rw (put.out_after, put.value, splice-length) (behind-most _ _);
    }
