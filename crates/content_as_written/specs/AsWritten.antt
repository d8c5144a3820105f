-- Content octets that are just as writing gives them, tested octet by octet: what the canonical check asks of content, and what document 02
-- (M-110) calls tail and fixed where it says no.
use Rattle.std.specs.Prelude.{ℕ, Bool, true, false, cond, not, ◌&&◌, ◌||◌, List, [], eqb, ltb, length, get_or, drop}
use Rattle.octets.specs.Octet.{field}
use Rattle.control.specs.Mode.{controls}
use Rattle.content.specs.Spell.{has_info, front}
use Rattle.parse.specs.Numbers.{is_i, is_s, is_ui, is_frmr, is_xid, is_test}
use Rattle.control.specs.declared.Mode.{Mode}
use Rattle.control.specs.declared.Mode.TheVariants.{Short, Long}
use Rattle.content.specs.declared.FrameContent.{FrameContent}

-- FRMR's unnamed bits are zero: the high four of its flags, the low one of its sequence numbers
abbrev pub frmr_tidy : ℕ → ℕ → Bool
frmr_tidy flags n = eqb (field 4 4 flags) 0 && eqb (field 0 1 n) 0

-- the four bits that reading ignores in an S control of the long mode are zero
abbrev pub s_tidy : Mode → ℕ → Bool
s_tidy Short c = true
s_tidy Long c = eqb (field 4 4 c) 0

-- no bit is set that reading ignores: the conditions above in S and in FRMR, and in another kind reading keeps every bit
unfoldable pub is_tidy : Mode → List ℕ → Bool
is_tidy m s =
    cond (is_s (get_or s 0 0)) (s_tidy m (get_or s 0 0))
    (cond (is_frmr (get_or s 0 0)) (frmr_tidy (get_or s 1 0) (get_or s 2 0))
    true)

-- a U frame with this control octet and so many octets has a tail: UI, XID and TEST have info, and FRMR is as long as reading wants it; another
-- is its control octet
abbrev pub u_tail : ℕ → ℕ → Bool
u_tail c len = cond (is_ui c || is_xid c || is_test c || is_frmr c) false (ltb 1 len)

-- octets follow a kind without info: I has info; S is its control field; U by its kind
unfoldable pub has_tail : Mode → List ℕ → Bool
has_tail m s =
    cond (is_i (get_or s 0 0)) false
    (cond (is_s (get_or s 0 0)) (ltb (controls m) (length s))
    (u_tail (get_or s 0 0) (length s)))

-- content that reading accepts is just as writing gives it where it has no tail and no such bit is set
abbrev pub as_written : Mode → List ℕ → Bool
as_written m s = not (has_tail m s) && is_tidy m s

-- the info of content that is read as this kind: what follows the octets before it
abbrev pub info_of : Mode → FrameContent → List ℕ → List ℕ
info_of m k s = cond (has_info k) (drop (length (front m k)) s) []
