-- `group_of` puts together the seven octets.
use Rattle.group.specs.Group.{group_of}
use Rattle.group.proofs.group_of.Goals as goal

pub returns : goal.returns
unfolding group_of
returns c = rw c.ssid_octet-last.ensures
