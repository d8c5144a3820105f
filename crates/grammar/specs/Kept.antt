-- What re-encoding keeps of the octets after the address field.
use Rattle.std.specs.Prelude.{ℕ, cond, length}
use Rattle.content.specs.Spell.{has_info, front}
use Rattle.control.specs.declared.Mode.{Mode}
use Rattle.content.specs.declared.FrameContent.{FrameContent}

-- how many of so many octets: all of a kind that has info, and of another kind its own without a tail
abbrev pub kept_of : Mode → FrameContent → ℕ → ℕ
kept_of m k rest = cond (has_info k) rest (length (front m k))
