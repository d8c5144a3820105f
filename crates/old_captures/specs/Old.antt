-- Captures that were taken while leading nulls were skipped (document 02, M-108).
use Rattle.std.specs.Prelude.{ℕ, Err, cond, List, eqb, length, drop}
use Rattle.control.specs.declared.Mode.{Mode}
use Rattle.decode.specs.Read.{start_of, end_of, refused_with, decode_field, decode, Decoding}
use Rattle.decode.specs.declared.DecodeError.TheVariants.{OnlyNullBytes, NoEndToAddressField}
use Rattle.grammar.specs.Moved.{moved}

-- leading nulls are skipped, and the remainder is answered as the decoder does, with places counted from the capture's first octet and
-- 4's length the whole capture's
unfoldable pub decode_old : Mode → List ℕ → Decoding
decode_old m s = moved (start_of s) (length s) (decode m (drop (start_of s) s))

-- the decoder as it was. Document 01, rule 1: the start is the first nonzero octet, the end is the first octet with its low bit set.
-- Numbers: 1 where there is no start, 2 where there is no end, then those of the address field from the start to the end
unfoldable pub former : Mode → List ℕ → Decoding
former m s =
    cond (eqb (start_of s) (length s)) (refused_with (Err OnlyNullBytes))
    (cond (eqb (end_of s) (length s)) (refused_with (Err NoEndToAddressField))
    (decode_field m s (start_of s) (end_of s)))
