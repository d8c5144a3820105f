-- The fields and the PID of content that is not refused.
use borrow.Author.Rules.{rules}
use Rattle.parse.proofs.Judged.{i_ok}
use Rattle.parse.proofs.parse_i_frame.Goals as goal

pub fields_of-fields-requires : goal.fields_of-fields-requires
fields_of-fields-requires c = search (rules, i_ok)

pub bounds-bytes-controls : goal.bounds-bytes-controls
bounds-bytes-controls c = search (rules, i_ok)

pub returns : goal.returns
returns c = search (rules, i_ok)
