-- Laws of reading that the functions' proofs share: a route with one repeater more, what the first octet says of the start, the start
-- no later than the end, a refused content.
use Prim.Native.Nat.{ℕ, zero, suc, ◌+◌, ◌*◌, ◌%◌, ◌/◌, ◌≤◌, ◌<◌}
use mathlib.Core.Path.{◌≡◌, refl, ap, sym, ◌∙◌}
use mathlib.Core.Bool.{true, false, false≢true, not}
use Rattle.std.specs.Prelude.{Result, Ok, Err}
use mathlib.Core.List.{List, [], ◌∷◌}
use native.Mathlib.Nat.{mod-eq_of_lt}
use native.Mathlib.Omega.{arith}
use borrow.Author.Tests.{ne_eqb, eqb-true, le-leb}
use lib.Bits.{and_mask}
use lib.Dec.{eqb, ltb}
use lib.ListN.{length, get_or, set}
use Rattle.octets.specs.Octet.{Octets, bit}
use Rattle.octets.specs.First.{first}
use Rattle.octets.proofs.Bits.{bit_test}
use Rattle.octets.proofs.First.{first_is, first_beyond, first_sooner, first-same}
use Rattle.content.specs.declared.FrameContent.{FrameContent}
use Rattle.parse.specs.declared.ContentError.{ContentError}
use Rattle.octets.specs.Outcome.{number_by}
use Rattle.decode.specs.Answer.{DecodeAnswer, error_number, number_of, is_accepted, answer_with}
use Rattle.decode.specs.declared.DecodeError.{DecodeError}
use Rattle.decode.specs.declared.DecodeError.TheVariants as error
use Rattle.search.specs.Search.{masked}
use Rattle.decode.specs.Read.{nonzero, start_of, end_of, entry_at, place_at, route_at, refusal_of}

-- a route of one repeater more
pub route_next : (s : List ℕ) (at i : ℕ) → i < 8 → set (route_at s at i) i (entry_at s (at + 7 * i)) ≡ route_at s at (i + 1)
unfolding route_at place_at
route_next s at zero h = refl
route_next s at (suc zero) h = refl
route_next s at (suc (suc zero)) h = refl
route_next s at (suc (suc (suc zero))) h = refl
route_next s at (suc (suc (suc (suc zero)))) h = refl
route_next s at (suc (suc (suc (suc (suc zero))))) h = refl
route_next s at (suc (suc (suc (suc (suc (suc zero)))))) h = refl
route_next s at (suc (suc (suc (suc (suc (suc (suc zero))))))) h = refl
route_next s at (suc (suc (suc (suc (suc (suc (suc (suc i)))))))) h = absurd (omega arith)

-- an octet with its low bit set is not zero
low-nonzero : (x : ℕ) → bit 0 x ≡ true → nonzero x ≡ true
low-nonzero x e = ap not (ne_eqb x 0 (λ z. let o : x / 1 % 2 ≡ 1 = eqb-true _ _ e in omega arith))

pub start_le_end : (s : List ℕ) → start_of s ≤ end_of s
start_le_end s = first_sooner (bit 0) nonzero low-nonzero s

-- the start is 0 where the first octet is not null, and else beyond it
pub some_first : (s : List ℕ) → nonzero (get_or s 0 0) ≡ true → 0 < length s
some_first [] e = absurd (false≢true e)
some_first (x ∷ s) e = omega arith

pub start_first : (s : List ℕ) → nonzero (get_or s 0 0) ≡ true → start_of s ≡ 0
start_first s e = first_is nonzero s 0 0 (some_first s e) e (λ j l. absurd (omega arith))

pub start-past : (s : List ℕ) → 0 < length s → ltb 0 (start_of s) ≡ not (nonzero (get_or s 0 0))
start-past s h = first_beyond nonzero s 0 0 h ∙ rw (le-leb 0 (start_of s) (omega arith)) refl

-- the code's searches by a mask, on octets: any bit of eight, and bit 0
pub start-masked : (s : List ℕ) → Octets s → first (masked 0xFF) s ≡ start_of s
start-masked s o = first-same (masked 0xFF) nonzero s 0 (λ k h. rw (and_mask (get_or s k 0) 8, mod-eq_of_lt (o k)))

pub end-masked : (s : List ℕ) → first (masked 0x01) s ≡ end_of s
end-masked s = first-same (masked 0x01) (bit 0) s 0 (λ k h. bit_test (get_or s k 0) 0)

-- what an answer with a value tells of the answer
pub told_ok : {T : Type 0} (a : DecodeAnswer) (x y : T) → answer_with a x ≡ Ok y → (a ≡ Ok tt) × (x ≡ y)
told_ok (Ok u) x y e = (refl, cc e)
told_ok (Err r) x y e = absurd (cc e)

pub told_err : {T : Type 0} (a : DecodeAnswer) (x : T) (r : DecodeError) → answer_with a x ≡ Err r → a ≡ Err r
told_err (Ok u) x r e = absurd (cc e)
told_err (Err q) x r e = ap (λ (q : DecodeError). Err q) (cc e)

-- and that it is accepted, or refused
pub accepted_ok : {T : Type 0} (a : DecodeAnswer) (x y : T) → answer_with a x ≡ Ok y → is_accepted a ≡ true
accepted_ok a x y e = rw (told_ok a x y e).0 refl

pub refused_err : {T : Type 0} (a : DecodeAnswer) (x : T) (r : DecodeError) → answer_with a x ≡ Err r → is_accepted a ≡ false
refused_err a x r e = rw (told_err a x r e) refl

pub answer_accepted : (a : DecodeAnswer) → is_accepted a ≡ true → a ≡ Ok tt
answer_accepted (Ok u) e = refl
answer_accepted (Err r) e = absurd (false≢true e)

pub answer_refused : (a : DecodeAnswer) → is_accepted a ≡ false → (r : DecodeError) × (a ≡ Err r)
answer_refused (Ok u) e = absurd (false≢true (sym e))
answer_refused (Err r) e = (r, refl)

-- the number of an answer with a value
pub number_with : {T : Type 0} (a : DecodeAnswer) (x : T) → number_by error_number (answer_with a x) ≡ number_of a
number_with (Ok u) x = refl
number_with (Err r) x = refl

-- what a match on the content's answer tells
pub told-content : (a : Result FrameContent ContentError) → ((k : FrameContent) → a ≡ Ok k → ⊥) → is_accepted (refusal_of a) ≡ false
told-content (Ok k) h = absurd (h k refl)
told-content (Err x) h = refl

-- a decode is accepted where its number is 0
pub zero-accepted : (a : DecodeAnswer) → eqb (number_of a) 0 ≡ is_accepted a
zero-accepted (Ok u) = refl
zero-accepted (Err error.OnlyNullBytes) = refl
zero-accepted (Err error.NoEndToAddressField) = refl
zero-accepted (Err (error.AddressFieldTooShort start end)) = refl
zero-accepted (Err (error.FrameTooShort len)) = refl
zero-accepted (Err error.MissingPidField) = refl
zero-accepted (Err error.UnrecognisedUFieldType) = refl
zero-accepted (Err error.WrongSizeFrmrInfo) = refl
zero-accepted (Err error.TooManyRepeaters) = refl
zero-accepted (Err error.LeadingNullBytes) = refl
zero-accepted (Err error.FrameRejectInLongMode) = refl
zero-accepted (Err error.MissingControlOctet) = refl
