use Rattle.std.proofs.Common.{◌≡◌, ◌++◌, length, take-append-drop, leb-true, sym, ◌∙◌, arith}
use lib.Seq.{length-take-le}
use Rattle.octets.proofs.First.{first_le}
use Rattle.octets.proofs.Position.{first_found}
use Rattle.octets.proofs.Library.{first_in_rest}
use Rattle.search.specs.Search.{masked}
use Rattle.search.proofs.find.Goals as goal

pub loop-eight-preserved : goal.loop-eight-preserved
loop-eight-preserved c =
    let p = masked c.args.mask in
    let rest = c.loop-eight.rest.now in
    let eight = c.in-Some.eight.now in
    let h = c.in-Some.ensures.cases in
    let parts : rest ≡ eight ++ c.in-Some.after.now = rw (h.0, h.1) (sym (take-append-drop 8 rest)) in
    let long : length eight ≡ 8 = rw h.0 (length-take-le 8 rest (omega (arith, h.2))) in
    let clear = leb-true _ _ (sym c.is_clear.ensures ∙ c.if-not-is_clear.false) in
    let turned = first_in_rest p eight c.in-Some.after.now rest parts (omega (arith, clear, long, first_le p eight)) in
    (omega (arith, h.2), omega (arith, turned, long))

pub returns : goal.returns
returns c =
    let found = rw c.place.ensures at c.unwrap_or.ensures in
    let p = masked c.args.mask in
    let rest = c.loop-eight.rest.now in
    record { value = omega (arith, found, first_found p rest); upper_bound = omega (arith, found, first_found p rest, first_le p rest) }
