-- Each field of the four octets, of content that is not refused.
use Prim.Native.Nat.{ℕ}
use borrow.Author.Rules.{rules}
use lib.ListN.{get_or}
use Rattle.octets.proofs.Bits.{bit_test}
use Rattle.parse.specs.Content.{response_of}
use Rattle.control.proofs.Masks.{poll_mask}
use Rattle.parse.proofs.Judged.{frmr_ok}
use Rattle.parse.proofs.parse_frmr_frame.Goals as goal

pub bounds-bytes-0 : goal.bounds-bytes-0
bounds-bytes-0 c = search (rules, frmr_ok)

pub bounds-bytes-1 : goal.bounds-bytes-1
bounds-bytes-1 c = search (rules, frmr_ok)

pub bounds-bytes-2 : goal.bounds-bytes-2
bounds-bytes-2 c = search (rules, frmr_ok)

pub bounds-bytes-3 : goal.bounds-bytes-3
bounds-bytes-3 c = search (rules, frmr_ok)

pub returns : goal.returns
unfolding response_of
returns c =
    let f : ℕ = get_or c.args.bytes.now 1 0 in
    simp (
      (frmr_ok c.args.mode c.args.bytes.now (search rules)).1,
      c.response_of.ensures,
      c.short_fields-copy.ensures,
      bit_test f 3,
      bit_test f 2,
      bit_test f 1,
      bit_test f 0,
      poll_mask,
    )
