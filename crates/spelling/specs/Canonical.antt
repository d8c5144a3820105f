-- One spelling: an input decoded and spelled again, and the canonical check.
use Rattle.std.specs.Prelude.{ℕ, Bool, ◌&&◌, List}
use Rattle.octets.specs.Same.{same}
use Rattle.control.specs.declared.Mode.{Mode}
use Rattle.decode.specs.Answer.{is_accepted}
use Rattle.decode.specs.Read.{decode, info_in}
use Rattle.frame.specs.Spell.{spell}

-- the octets that an accepted input is re-encoded as
unfoldable pub again : Mode → List ℕ → List ℕ
again m s = spell m (decode m s).frame (info_in s (decode m s))

-- canonical: accepted, and re-encoded as itself
unfoldable pub canonical : Mode → List ℕ → Bool
canonical m s = is_accepted (decode m s).answer && same (again m s) s
