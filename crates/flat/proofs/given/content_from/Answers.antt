-- By the content at 0.
use Rattle.flat.proofs.given.content_from.Goals as goal

pub returns : goal.returns
returns c = c.content_at.ensures
