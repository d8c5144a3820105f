-- Each number is given exactly when its row of the table holds.
use Prim.Native.Nat.{ℕ, ◌<◌}
use mathlib.Core.Path.{◌≡◌}
use mathlib.Core.Bool.{true, false, cond}
use mathlib.Core.List.{List}
use Rattle.std.specs.Prelude.{Result}
use native.Mathlib.Omega.{arith}
use borrow.Author.Tests.{eq-eqb, ne_eqb, eqb-true, eqb-false}
use lib.Dec.{eqb, ltb}
use lib.ListN.{length, get_or}
use Rattle.octets.specs.Octet.{field}
use Rattle.octets.proofs.Choice.{by, either}
use Rattle.control.specs.Control.{sabm, sabme, disc, dm, ua, frmr, ui, xid, test, u_kind}
use Rattle.control.specs.declared.Mode.{Mode}
use Rattle.control.specs.declared.Mode.TheVariants.{Short, Long}
use Rattle.content.specs.declared.FrameContent.{FrameContent}
use Rattle.parse.specs.Content.{i_of, s_of, ui_of, frmr_of, u_of, content_of, number_of}
use Rattle.parse.specs.Numbers.{is_i, is_s, is_u, is_ui, is_frmr, lacks_control, lacks_pid, strange_u, frmr_in_long, wrong_frmr, rows}
use Rattle.parse.specs.declared.ContentError.{ContentError}

abbrev Right : Mode → List ℕ → Result FrameContent ContentError → Type 0
Right m s a = number_of a ≡ rows m s

-- what the low bits exclude
record NotU (c : ℕ) : Type 0 where
  u : is_u c ≡ false
  information : is_ui c ≡ false
  reject : is_frmr c ≡ false

not_u : (c : ℕ) → (field 0 2 c ≡ 3 → ⊥) → NotU c
not_u c n = record {
  u = ne_eqb (field 0 2 c) 3 n;
  information = ne_eqb (u_kind c) ui (λ e. n (omega (arith, e)));
  reject = ne_eqb (u_kind c) frmr (λ e. n (omega (arith, e)));
}

i-number : (m : Mode) (s : List ℕ) → eqb (length s) 0 ≡ false → is_i (get_or s 0 0) ≡ true → Right m s (i_of m s)
unfolding i_of rows
i-number Short s z i =
    let w = not_u (get_or s 0 0) (λ e. omega (arith, e, eqb-true (field 0 1 (get_or s 0 0)) 0 i)) in
    either (Right Short s) (ltb (length s) 2) (λ l. simp (z, i, l)) (λ l. simp (z, i, l, w.u, w.information, w.reject))
i-number Long s z i =
    let w = not_u (get_or s 0 0) (λ e. omega (arith, e, eqb-true (field 0 1 (get_or s 0 0)) 0 i)) in
    either (Right Long s) (ltb (length s) 2) (λ l. simp (z, i, l))
    (λ l. either (Right Long s) (ltb (length s) 3) (λ k. simp (z, i, l, k)) (λ k. simp (z, i, l, k, w.u, w.information, w.reject)))

s-number : (m : Mode) (s : List ℕ) → eqb (length s) 0 ≡ false → is_i (get_or s 0 0) ≡ false → is_s (get_or s 0 0) ≡ true → Right m s (s_of m s)
unfolding s_of rows
s-number Short s z i t =
    let w = not_u (get_or s 0 0) (λ e. omega (arith, e, eqb-true (field 0 2 (get_or s 0 0)) 1 t)) in
    by (ltb (length s) 2) (λ l. simp (z, i, t, l, w.u, w.information, w.reject)) (λ l. simp (z, i, t, l, w.u, w.information, w.reject))
s-number Long s z i t =
    let w = not_u (get_or s 0 0) (λ e. omega (arith, e, eqb-true (field 0 2 (get_or s 0 0)) 1 t)) in
    either (Right Long s) (ltb (length s) 2) (λ l. simp (z, i, t, l)) (λ l. simp (z, i, t, l, w.u, w.information, w.reject))

module _ (s : List ℕ) (z : eqb (length s) 0 ≡ false) (i : is_i (get_or s 0 0) ≡ false) (t : is_s (get_or s 0 0) ≡ false)
    (u : is_u (get_or s 0 0) ≡ true) where
  abbrev c : ℕ
  c = get_or s 0 0

  frmr-number : (m : Mode) → u_kind c ≡ frmr → Right m s (frmr_of m s)
  unfolding frmr_of rows
  frmr-number Short e = either (Right Short s) (eqb (length s) 4) (λ l. simp (z, i, t, u, e, l)) (λ l. simp (z, i, t, u, e, l))
  frmr-number Long e = simp (z, i, t, u, e)

  module _ (m : Mode) where
    ui-number : u_kind c ≡ ui → Right m s (ui_of s)
    unfolding ui_of rows
    ui-number e = either (Right m s) (ltb (length s) 2) (λ l. simp (z, i, t, u, e, l)) (λ l. simp (z, i, t, u, e, l))

    u-number : Right m s (u_of m c s)
    unfolding u_of rows
    u-number =
        let P = Right m s in
        either P (eqb (u_kind c) sabm) (λ e. simp (z, i, t, u, eqb-true (u_kind c) sabm e))
        (λ a. either P (eqb (u_kind c) sabme) (λ e. simp (z, i, t, u, eqb-true (u_kind c) sabme e))
        (λ k. either P (eqb (u_kind c) disc) (λ e. simp (z, i, t, u, eqb-true (u_kind c) disc e))
        (λ b. either P (eqb (u_kind c) dm) (λ e. simp (z, i, t, u, eqb-true (u_kind c) dm e))
        (λ d. either P (eqb (u_kind c) ua) (λ e. simp (z, i, t, u, eqb-true (u_kind c) ua e))
        (λ f. either P (eqb (u_kind c) frmr) (λ e. frmr-number m (eqb-true (u_kind c) frmr e))
        (λ g. either P (eqb (u_kind c) ui) (λ e. ui-number (eqb-true (u_kind c) ui e))
        (λ h. either P (eqb (u_kind c) xid) (λ e. simp (z, i, t, u, eqb-true (u_kind c) xid e))
        (λ x. either P (eqb (u_kind c) test) (λ e. simp (z, i, t, u, eqb-true (u_kind c) test e))
        (λ y. simp (z, i, t, u, a, k, b, d, f, g, h, x, y))))))))))

pub numbers : (m : Mode) (s : List ℕ) → Right m s (content_of m s)
unfolding content_of rows
numbers m s =
    let c : ℕ = get_or s 0 0 in
    let P = Right m s in
    either P (eqb (length s) 0) (λ z. simp z)
    (λ z. either P (is_i c) (λ i. i-number m s z i)
    (λ i. either P (is_s c) (λ t. s-number m s z i t)
    (λ t. u-number s z i t
    (eq-eqb (field 0 2 c) 3 (omega (arith, eqb-false (field 0 1 c) 0 i, eqb-false (field 0 2 c) 1 t))) m)))

-- the table, row by row, of content that is there
pub rows_some : (m : Mode) (s : List ℕ) → 0 < length s
    → rows m s
    ≡ cond (lacks_control m s) 12 (cond (lacks_pid m s) 5 (cond (strange_u s) 7 (cond (frmr_in_long m s) 11 (cond (wrong_frmr m s) 8 0))))
unfolding rows
rows_some m s h = simp (ne_eqb (length s) 0 (λ e. omega arith))
