-- What is refused, by the lengths alone, in either mode; and the format by the low two bits.
use Prim.Native.Nat.{ℕ, ◌+◌, ◌≤◌, ◌<◌}
use mathlib.Core.Path.{◌≡◌, refl, sym, ◌∙◌}
use mathlib.Core.Bool.{cond}
use mathlib.Core.List.{List}
use Rattle.std.specs.Prelude.{Result, Ok, Err}
use native.Mathlib.Omega.{arith}
use borrow.Author.Tests.{eq-eqb, ne_eqb, le-ltb, eqb-true, ltb-false}
use lib.Dec.{eqb, ltb}
use lib.ListN.{length, get_or}
use Rattle.octets.specs.Octet.{field}
use Rattle.octets.proofs.Choice.{by}
use Rattle.control.specs.Mode.{controls}
use Rattle.control.specs.declared.Mode.{Mode}
use Rattle.control.specs.declared.Mode.TheVariants.{Short, Long}
use Rattle.content.specs.declared.FrameContent.TheVariants as kind
use Rattle.parse.specs.Content.{i_fields_of, s_frame_of, ui_fields_of, frmr_fields_of, i_of, s_of, ui_of, frmr_of, u_of, content_of, judged}
use Rattle.parse.specs.declared.ContentError.{ContentError}
use Rattle.parse.specs.declared.ContentError.TheVariants.{MissingPidField, WrongSizeFrmrInfo, FrameRejectInLongMode, MissingControlOctet}

-- I content in either mode, of octets that are some
pub i_is : (m : Mode) (s : List ℕ) → 0 < length s
    → i_of m s
    ≡ cond (ltb (length s) (controls m)) (Err MissingControlOctet)
    (cond (ltb (length s) (controls m + 1)) (Err MissingPidField) (Ok (kind.Information (i_fields_of m s))))
unfolding i_of
i_is Short s h = rw (le-ltb (length s) 1 h) refl
i_is Long s h = refl

-- and S content
pub s_is : (m : Mode) (s : List ℕ) → 0 < length s → s_of m s ≡ cond (ltb (length s) (controls m)) (Err MissingControlOctet) (Ok (s_frame_of m s))
unfolding s_of
s_is Short s h = rw (le-ltb (length s) 1 h) refl
s_is Long s h = refl

-- the format by the low two bits
pub of_s : (m : Mode) (s : List ℕ) → 0 < length s → field 0 2 (get_or s 0 0) ≡ 1 → content_of m s ≡ s_of m s
unfolding content_of
of_s m s h e =
    simp (
      ne_eqb (length s) 0 (λ z. omega arith),
      ne_eqb (field 0 1 (get_or s 0 0)) 0 (λ z. omega (arith, e, z)),
      eq-eqb (field 0 2 (get_or s 0 0)) 1 e,
    )

pub of_u : (m : Mode) (s : List ℕ) → 0 < length s → field 0 2 (get_or s 0 0) ≡ 3 → content_of m s ≡ u_of m (get_or s 0 0) s
unfolding content_of
of_u m s h e =
    simp (
      ne_eqb (length s) 0 (λ z. omega arith),
      ne_eqb (field 0 1 (get_or s 0 0)) 0 (λ z. omega (arith, e, z)),
      ne_eqb (field 0 2 (get_or s 0 0)) 1 (λ z. omega (arith, e, z)),
    )

pub of_i : (m : Mode) (s : List ℕ) → 0 < length s → (field 0 2 (get_or s 0 0) ≡ 1 → ⊥) → (field 0 2 (get_or s 0 0) ≡ 3 → ⊥) → content_of m s ≡ i_of m s
unfolding content_of
of_i m s h a b =
    simp (
      ne_eqb (length s) 0 (λ z. omega arith),
      eq-eqb (field 0 1 (get_or s 0 0)) 0 (omega (arith, a, b)),
    )

-- an answer does not both accept and refuse
not_ok : {A : Type 0} {r : Result Unit ContentError} (e : ContentError) → r ≡ Ok tt → r ≡ Err e → A
not_ok e j k = absurd (cc (sym j ∙ k))

-- content that is not refused has its octets, and is what they are read as
pub i_ok : (m : Mode) (s : List ℕ) → 0 < length s → judged (i_of m s) ≡ Ok tt
    → (controls m + 1 ≤ length s) × (i_of m s ≡ Ok (kind.Information (i_fields_of m s)))
i_ok m s h j =
    let e = i_is m s h in
    by (ltb (length s) (controls m)) (λ l. not_ok MissingControlOctet j (rw (e, l) refl))
    (λ l. by (ltb (length s) (controls m + 1)) (λ k. not_ok MissingPidField j (rw (e, l, k) refl)) (λ k. (ltb-false (length s) (controls m + 1) k, rw (e, l, k) refl)))

pub s_ok : (m : Mode) (s : List ℕ) → 0 < length s → judged (s_of m s) ≡ Ok tt → (controls m ≤ length s) × (s_of m s ≡ Ok (s_frame_of m s))
s_ok m s h j =
    let e = s_is m s h in
    by (ltb (length s) (controls m)) (λ l. not_ok MissingControlOctet j (rw (e, l) refl)) (λ l. (ltb-false (length s) (controls m) l, rw (e, l) refl))

pub ui_ok : (s : List ℕ) → judged (ui_of s) ≡ Ok tt → (2 ≤ length s) × (ui_of s ≡ Ok (kind.UnnumberedInformation (ui_fields_of s)))
unfolding ui_of
ui_ok s j = by (ltb (length s) 2) (λ l. not_ok MissingPidField j (rw l refl)) (λ l. (ltb-false (length s) 2 l, rw l refl))

pub frmr_ok : (m : Mode) (s : List ℕ) → judged (frmr_of m s) ≡ Ok tt → (length s ≡ 4) × (frmr_of m s ≡ Ok (kind.FrameReject (frmr_fields_of s)))
unfolding frmr_of
frmr_ok Short s j = by (eqb (length s) 4) (λ l. (eqb-true (length s) 4 l, rw l refl)) (λ l. not_ok WrongSizeFrmrInfo j (rw l refl))
frmr_ok Long s j = not_ok FrameRejectInLongMode j refl
