-- The texts of several addresses, part by part; and what is written.
use Prim.Native.Nat.{ℕ, zero, suc, ◌+◌, ◌≤◌, ◌<◌}
use mathlib.Core.Path.{◌≡◌, refl, sym, ◌∙◌}
use mathlib.Core.Bool.{cond}
use mathlib.Core.List.{List, [], ◌∷◌, ◌++◌, append_assoc, append-nil}
use native.Mathlib.Numerals.{add-one}
use native.Mathlib.Omega.{arith}
use lib.Dec.{eqb, ltb}
use lib.ListN.{length, get_or, take}
use lib.Seq.{take-suc}
use Rattle.std.proofs.lemmas.List.{get_or-take}
use Rattle.frame.specs.Spell.{repeater_at}
use Rattle.frame.specs.declared.RouteEntry.{RouteEntry}
use Rattle.words.specs.Ascii.{ascii}
use Rattle.words.specs.Words.{character}
use Rattle.dump.specs.Text.{characters, entry_text, route_text}
use Rattle.dump.specs.Dump.{detail_text, dumped}
use Rattle.dump.specs.declared.DumpError.TheVariants.{NoRoom}
use Rattle.octets.specs.Outcome.{length_of}
use Rattle.words.specs.Room.{fitting}
use Rattle.words.proofs.Room.{fitting_is}
use Rattle.std.proofs.Common.{ok_or}
use Rattle.octets.proofs.Choice.{by}
use borrow.Author.Tests.{ltb-false}
use Rattle.decode.specs.declared.DecodeError.{DecodeError}
use Rattle.decode.specs.declared.DecodeError.TheVariants as error

characters-append : (a b : List ℕ) → characters (a ++ b) ≡ characters a ++ characters b
unfolding characters
characters-append [] b = refl
characters-append (x ∷ a) b = rw (characters-append a b) (sym (append_assoc (character x) (characters a) (characters b)))

-- one character more
pub characters_next : (t : List ℕ) (i : ℕ) → i < length t → characters (take (i + 1) t) ≡ characters (take i t) ++ character (get_or t i 0)
unfolding characters
characters_next t i h =
    rw (add-one, take-suc t i 0)
    (characters-append (take i t) (get_or t i 0 ∷ []) ∙ rw (append-nil (character (get_or t i 0))) refl)

-- one entry more
pub route_next : (route : List RouteEntry) (i : ℕ)
    → route_text route (i + 1) ≡ route_text route i ++ (cond (eqb i 0) [] (ascii ",") ++ entry_text (repeater_at route i))
unfolding route_text
route_next route i = rw add-one refl

-- the first entries alone
pub route_taken : (route : List RouteEntry) (m n : ℕ) → n ≤ m → route_text (take m route) n ≡ route_text route n
unfolding route_text
route_taken route m zero h = refl
route_taken route m (suc n) h = rw (route_taken route m n (omega (arith, h)), get_or-take m route n _ (omega (arith, h))) refl

-- the refusals that have no details
pub no_details : (a : DecodeError) → ((start end : ℕ) → a ≡ error.AddressFieldTooShort start end → ⊥) → ((len : ℕ) → a ≡ error.FrameTooShort len → ⊥)
    → detail_text a ≡ []
no_details error.OnlyNullBytes h k = refl
no_details error.NoEndToAddressField h k = refl
no_details (error.AddressFieldTooShort start end) h k = absurd (h start end refl)
no_details (error.FrameTooShort len) h k = absurd (k len refl)
no_details error.MissingPidField h k = refl
no_details error.UnrecognisedUFieldType h k = refl
no_details error.WrongSizeFrmrInfo h k = refl
no_details error.TooManyRepeaters h k = refl
no_details error.LeadingNullBytes h k = refl
no_details error.FrameRejectInLongMode h k = refl
no_details error.MissingControlOctet h k = refl

-- what is written where there is room for a text, and where there is not
pub written : (room : ℕ) (t : List ℕ) → ok_or (fitting room t) NoRoom ≡ dumped t room
unfolding dumped
written room t = rw (fitting_is room t) (by (ltb room (length t)) (λ e. rw e refl) (λ e. rw e refl))

pub within : (room : ℕ) (t : List ℕ) → length_of (dumped t room) ≤ room
unfolding dumped
within room t =
    by (ltb room (length t))
    (λ e. rw e (omega arith))
    (λ e. rw e (ltb-false room (length t) e))
