-- The address field goes to the start of the output, and the content into what is left after it.
use Prim.Native.Nat.{◌+◌, ◌*◌, ◌≤◌}
use mathlib.Core.Path.{◌≡◌, ◌∙◌}
use native.Mathlib.Omega.{arith}
use lib.ListN.{length}
use Rattle.octets.proofs.Splice.{splice-length}
use Rattle.content.specs.Spell.{front}
use Rattle.std.specs.Prelude.{Ok}
use Rattle.frame.proofs.Write.{spell-length, field_room, content-length, content-put}
use borrow.Author.Rules.{rules}
use Rattle.frame.proofs.writing.put_frame.Goals as goal
use Rattle.frame.proofs.writing.put_frame.Goals.{After-encode}

pub put_addresses-requires : goal.put_addresses-requires
put_addresses-requires c = (c.requires.count, field_room _ _ _ c.args.out.now c.requires, c.requires.addresses)

-- what is left of the output starts inside it
pub slice_bounds-encode-count : goal.slice_bounds-encode-count
slice_bounds-encode-count c = rw (c.put_addresses.ensures, splice-length) (field_room _ _ _ c.args.out.now c.requires)

pub slice_bounds-encode-start : goal.slice_bounds-encode-start
slice_bounds-encode-start c =
    let h : 14 + 7 * c.args.frame.route_count ≤ length c.put_addresses.new.out =
    rw (c.put_addresses.ensures, splice-length) (field_room _ _ _ c.args.out.now c.requires) in
    search rules

-- how many octets the content takes
taken : (c : After-encode) → let a = c.args in c.encode.result ≡ Ok (length (front a.mode a.frame.content) + length a.info.now)
taken c = c.encode.ensures.value ∙ rw c.put_addresses.ensures (content-length _ _ _ c.args.out.now c.requires)

pub unwrap-requires : goal.unwrap-requires
unwrap-requires c = search (rules, taken (goal.at.unwrap-requires c).After-encode)

pub overflow_add-result : goal.overflow_add-result
overflow_add-result c =
    let a = c.args in
    let n : c.unwrap.result ≡ length (front a.mode a.frame.content) + length a.info.now = search (rules, taken (goal.at.overflow_add-result c).After-encode) in
    omega (arith, spell-length a.mode a.frame a.info.now, c.requires.room)

pub returns : goal.returns
returns c =
    let a = c.args in
    let n : c.unwrap.result ≡ length (front a.mode a.frame.content) + length a.info.now = search (rules, taken (goal.at.returns c).After-encode) in
    record {
      value = omega (arith, spell-length a.mode a.frame a.info.now);
      out_after = rw (c.encode.ensures.out_after, c.put_addresses.ensures) (content-put _ _ _ a.out.now c.requires);
    }
