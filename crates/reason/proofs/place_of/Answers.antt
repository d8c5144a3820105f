-- Each refusal by its number in the definition.
use Rattle.std.proofs.Common.{◌≡◌, ◌∙◌, refl, ap, ℕ, ◌+◌}
use Rattle.std.specs.Prelude.{◌⊎◌}
use mathlib.Core.Logic.{⊎_elim}
use Rattle.decode.proofs.Read.{end-masked}
use Rattle.reason.specs.Reason.{place_of}
use Rattle.reason.proofs.place_of.Goals as goal

pub returns-in-OnlyNullBytes : goal.returns-in-OnlyNullBytes
unfolding place_of
returns-in-OnlyNullBytes c = ⊎_elim (λ w. rw w refl) (⊎_elim (λ w. rw w refl) (λ w. rw w refl)) c.in-OnlyNullBytes.is

pub returns-in-TooManyRepeaters : goal.returns-in-TooManyRepeaters
unfolding place_of
returns-in-TooManyRepeaters c = rw c.in-TooManyRepeaters.is refl

pub returns-in-AddressFieldTooShort : goal.returns-in-AddressFieldTooShort
unfolding place_of
returns-in-AddressFieldTooShort c =
    let e = c.find.ensures.value ∙ end-masked c.args.bytes.now in
    ⊎_elim (λ w. rw w.2 e) (λ w. rw w.1 e) c.in-AddressFieldTooShort.is

pub returns-in-MissingPidField : goal.returns-in-MissingPidField
unfolding place_of
returns-in-MissingPidField c =
    let e = ap (λ (n : ℕ). n + 1) (c.find-in-MissingPidField.ensures.value ∙ end-masked c.args.bytes.now) in
    ⊎_elim (λ w. rw w e) (⊎_elim (λ w. rw w e) (⊎_elim (λ w. rw w e) (⊎_elim (λ w. rw w e) (λ w. rw w e)))) c.in-MissingPidField.is
