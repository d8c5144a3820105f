-- When each number of reading content is given (document 01, Numbers; document 02, M-109), said of the octets and not by reading them.
use Rattle.std.specs.Prelude.{ℕ, ◌+◌, Bool, cond, not, ◌&&◌, ◌||◌, List, eqb, ltb, length, get_or}
use Rattle.octets.specs.Octet.{field}
use Rattle.control.specs.Mode.{is_long, controls}
use Rattle.control.specs.Control.{sabm, sabme, disc, dm, ua, frmr, ui, xid, test, u_kind}
use Rattle.control.specs.declared.Mode.{Mode}

-- the kinds by the control octet: low bit 0 is I, low bits 01 are S, low bits 11 are U
abbrev pub is_i : ℕ → Bool
is_i c = eqb (field 0 1 c) 0

abbrev pub is_s : ℕ → Bool
is_s c = eqb (field 0 2 c) 1

abbrev pub is_u : ℕ → Bool
is_u c = eqb (field 0 2 c) 3

abbrev pub is_ui : ℕ → Bool
is_ui c = eqb (u_kind c) ui

abbrev pub is_frmr : ℕ → Bool
is_frmr c = eqb (u_kind c) frmr

abbrev pub is_xid : ℕ → Bool
is_xid c = eqb (u_kind c) xid

abbrev pub is_test : ℕ → Bool
is_test c = eqb (u_kind c) test

-- the U kinds that have a name. The S kinds all have one, so that 6, unrecognised S, is never given
abbrev pub known_u : ℕ → Bool
known_u c =
    eqb (u_kind c) sabm || eqb (u_kind c) sabme || eqb (u_kind c) disc || eqb (u_kind c) dm || eqb (u_kind c) ua || eqb (u_kind c) frmr
    || eqb (u_kind c) ui || eqb (u_kind c) xid || eqb (u_kind c) test

-- 12: I or S content without its second control octet, in the long mode
abbrev pub lacks_control : Mode → List ℕ → Bool
lacks_control m s = (is_i (get_or s 0 0) || is_s (get_or s 0 0)) && (ltb (length s) 2 && is_long m)

-- 5: I content that ends with its control field, or UI content shorter than 2
abbrev pub lacks_pid : Mode → List ℕ → Bool
lacks_pid m s = (is_i (get_or s 0 0) && ltb (length s) (controls m + 1)) || (is_ui (get_or s 0 0) && ltb (length s) 2)

-- 7: unrecognised U
abbrev pub strange_u : List ℕ → Bool
strange_u s = is_u (get_or s 0 0) && not (known_u (get_or s 0 0))

-- 11: FRMR in the long mode, whatever its size
abbrev pub frmr_in_long : Mode → List ℕ → Bool
frmr_in_long m s = is_frmr (get_or s 0 0) && is_long m

-- 8: FRMR content not 4 octets, in the short mode
abbrev pub wrong_frmr : Mode → List ℕ → Bool
wrong_frmr m s = is_frmr (get_or s 0 0) && (not (eqb (length s) 4) && not (is_long m))

-- the rows of the table in their order, 4 for no content first; 0 where none holds
unfoldable pub rows : Mode → List ℕ → ℕ
rows m s =
    cond (eqb (length s) 0) 4
    (cond (lacks_control m s) 12
    (cond (lacks_pid m s) 5
    (cond (strange_u s) 7
    (cond (frmr_in_long m s) 11
    (cond (wrong_frmr m s) 8
    0)))))
