-- A refusal writes nothing.
use borrow.Author.Rules.{rules}
use Rattle.octets.proofs.Splice.{splice_none}
use Rattle.probe.proofs.probe_content.Goals as goal

pub returns-in-Err-clause-flat_after : goal.returns-in-Err-clause-flat_after
returns-in-Err-clause-flat_after c = search (rules, splice_none)
