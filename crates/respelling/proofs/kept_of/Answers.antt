-- By whether the kind has info.
use mathlib.Core.Path.{◌≡◌, sym, ◌∙◌}
use mathlib.Core.Bool.{false}
use Rattle.content.specs.Spell.{has_info}
use Rattle.respelling.proofs.kept_of.Goals as goal

pub returns : goal.returns
returns c =
    let e : has_info c.args.content ≡ false = sym c.has_info.ensures ∙ c.if-has_info.false in
    rw (e, c.front_len.ensures)
