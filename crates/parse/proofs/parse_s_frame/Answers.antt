-- The fields of content that is not refused, and the kind of the first octet.
use mathlib.Core.Path.{sym}
use borrow.Author.Rules.{rules}
use Rattle.parse.proofs.Judged.{s_ok}
use Rattle.parse.proofs.parse_s_frame.Goals as goal

pub fields_of-fields-requires : goal.fields_of-fields-requires
fields_of-fields-requires c = (s_ok c.args.mode c.args.bytes.now c.requires (search rules)).0

pub returns : goal.returns
returns c = rw (c.s_kind_of.ensures, c.fields_of-fields.ensures) (sym (s_ok c.args.mode c.args.bytes.now c.requires (search rules)).1)
