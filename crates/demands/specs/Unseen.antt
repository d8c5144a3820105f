-- Document 02, M-107, in each mode (M-109): nothing unseen at equal length. The radio desk compares captures by their decoded frames: in which bits two inputs
-- that are read alike may differ.
use Rattle.std.specs.Prelude.{ℕ, zero, suc, ◌+◌, ◌-◌, ◌*◌, ◌<◌, ◌≡◌, Bool, true, false, cond, not, ◌&&◌, List, [], ◌∷◌, ◌++◌, leb, length, get_or, take}
use Rattle.std.specs.Bool.{beq}
use Rattle.octets.specs.Octet.{bit}
use Rattle.control.specs.declared.Mode.{Mode}
use Rattle.content_as_written.specs.Unseen.{unseen}
use Rattle.frame.specs.Spell.{in_use}
use Rattle.frame.specs.declared.Ax25Frame.{Ax25Frame}
use Rattle.decode.specs.Answer.{is_accepted}
use Rattle.decode.specs.Read.{decode, info_in, Decoding}
use Rattle.demands.specs.Examples.{addresses, whole}

-- t, of which e was decoded, is accepted, and the desk sees in it what it sees in s, of which d was decoded: the same frame, in all that
-- is in use, and the same info octets
pub record Alike (s : List ℕ) (d : Decoding) (t : List ℕ) (e : Decoding) : Type 0 where
  pub accepted : is_accepted e.answer ≡ true
  pub frame : in_use e.frame ≡ in_use d.frame
  pub info : info_in t e ≡ info_in s d

-- the excepted places of a frame: bit j of octet k, where that is an unseen bit of the content. The content stands after 14 octets of
-- destination and source and 7 of each repeater
abbrev pub excepted : Mode → Ax25Frame → ℕ → ℕ → Bool
excepted m f k j = leb (14 + 7 * f.route_count) k && unseen m f.content (k - (14 + 7 * f.route_count)) j

-- a frame without such places
abbrev pub NoneExcepted : Mode → Ax25Frame → Type 0
NoneExcepted m f = (k j : ℕ) → excepted m f k j ≡ false

-- each bit of t is that of s, save for excepted ones
abbrev pub SameSave : Mode → Ax25Frame → List ℕ → List ℕ → Type 0
SameSave m f s t = (k j : ℕ) → j < 8 → excepted m f k j ≡ false → bit j (get_or t k 0) ≡ bit j (get_or s k 0)

-- of a canonical s and any octets t, with what was decoded of each, and whether t is canonical too
pub record NothingUnseen (m : Mode) (s : List ℕ) (d : Decoding) (t : List ℕ) (e : Decoding) (yes : Bool) : Type 0 where
  -- of equal length, accepted, with the same frame and info: the same octets, save for excepted bits
  pub same : length t ≡ length s → Alike s d t e → SameSave m d.frame s t
  -- so the same octets, where no bit of the frame is excepted
  pub octets : length t ≡ length s → Alike s d t e → NoneExcepted m d.frame → t ≡ s
  -- tight: of equal length, and the same octets save for excepted bits: accepted, with the same frame and info
  pub tight : length t ≡ length s → SameSave m d.frame s t → Alike s d t e
  -- canonical too, with the same frame and info: the same octets, whatever their lengths
  pub canonical : yes ≡ true → Alike s d t e → t ≡ s

-- the bits of so many octets, and those that pass
abbrev pub places : ℕ → List (ℕ × ℕ)
places zero = []
places (suc k) = places k ++ ((k, 0) ∷ (k, 1) ∷ (k, 2) ∷ (k, 3) ∷ (k, 4) ∷ (k, 5) ∷ (k, 6) ∷ (k, 7) ∷ [])

abbrev pub passing : (ℕ → ℕ → Bool) → List (ℕ × ℕ) → List (ℕ × ℕ)
passing test [] = []
passing test ((k, j) ∷ rest) = cond (test k j) ((k, j) ∷ passing test rest) (passing test rest)

-- the excepted bits of an input, and those in which two inputs of one length differ
abbrev pub exceptions : Mode → List ℕ → List (ℕ × ℕ)
exceptions m s = passing (excepted m (decode m s).frame) (places (length s))

abbrev pub differing : List ℕ → List ℕ → List (ℕ × ℕ)
differing s t = passing (λ k j. not (beq (bit j (get_or s k 0)) (bit j (get_or t k 0)))) (places (length s))

-- document 01's address octets with the FRMR that P11 is re-encoded as, and that with each excepted bit set alone
abbrev pub reject : List ℕ
reject = addresses ++ (0x87 ∷ 0x01 ∷ 0x02 ∷ 0x44 ∷ [])

abbrev pub rejects : List (List ℕ)
rejects =
    (addresses ++ (0x87 ∷ 0x11 ∷ 0x02 ∷ 0x44 ∷ []))
    ∷ (addresses ++ (0x87 ∷ 0x21 ∷ 0x02 ∷ 0x44 ∷ []))
    ∷ (addresses ++ (0x87 ∷ 0x41 ∷ 0x02 ∷ 0x44 ∷ []))
    ∷ (addresses ++ (0x87 ∷ 0x81 ∷ 0x02 ∷ 0x44 ∷ []))
    ∷ (addresses ++ (0x87 ∷ 0x01 ∷ 0x03 ∷ 0x44 ∷ []))
    ∷ []

-- and in the long mode an RR with N(R) 1 and its final bit set, and that with each excepted bit set alone
abbrev pub ready : List ℕ
ready = addresses ++ (0x01 ∷ 0x03 ∷ [])

abbrev pub readies : List (List ℕ)
readies =
    (addresses ++ (0x11 ∷ 0x03 ∷ []))
    ∷ (addresses ++ (0x21 ∷ 0x03 ∷ []))
    ∷ (addresses ++ (0x41 ∷ 0x03 ∷ []))
    ∷ (addresses ++ (0x81 ∷ 0x03 ∷ []))
    ∷ []

-- where an input t differs from s, with all that is decoded of it; and what this is for an input that differs in bit b alone and is read as
-- s is
abbrev pub beside : Mode → List ℕ → List ℕ → List (ℕ × ℕ) × Decoding
beside m s t = (differing s t, decode m t)

abbrev pub unseen_at : Mode → List ℕ → ℕ × ℕ → List (ℕ × ℕ) × Decoding
unseen_at m s b = (b ∷ [], decode m s)

-- why lengths are asked: inputs that are canonical in the short mode, each with a longer one that is read alike. An octet left over in the address field, a tail
abbrev pub longer : List (List ℕ × List ℕ)
longer =
    (whole, take 13 addresses ++ (0x66 ∷ 0x01 ∷ 0x03 ∷ 0xF0 ∷ 0x4F ∷ 0x4B ∷ []))
    ∷ (addresses ++ (0x01 ∷ []), addresses ++ (0x01 ∷ 0xAA ∷ []))
    ∷ []

-- all that the desk sees of an input, and whether it is accepted
abbrev pub seen : Mode → List ℕ → Bool × Ax25Frame × List ℕ
seen m s = (is_accepted (decode m s).answer, (decode m s).frame, info_in s (decode m s))
