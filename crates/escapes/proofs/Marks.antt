-- One turn of each loop: how many special octets have been met.
use Rattle.std.proofs.Common.{◌≡◌, ℕ, suc, ◌+◌, ◌≤◌, ◌<◌, Bool, true, false, cond, not, ◌&&◌, ◌||◌, List, ◌++◌, leb, length, get_or, take, drop, refl, ◌∙◌, arith, take-append-drop}
use lib.Seq.{length-take-le}
use mir.Val.{bool_byte}
use Rattle.octets.specs.First.{first}
use Rattle.octets.specs.Count.{count}
use Rattle.octets.proofs.First.{first_before, first_past, first_beyond}
use Rattle.octets.proofs.Count.{count_step, count_append}
use Rattle.escapes.specs.Escape.{special}

one_more : (n : ℕ) (b : Bool) → cond b (suc n) n ≡ bool_byte b + n
one_more n true = omega arith
one_more n false = omega arith

-- what is met at a place, and behind it
pub count_turn : (s : List ℕ) (i : ℕ) → i < length s → count special (drop i s) ≡ bool_byte (special (get_or s i 0)) + count special (drop (i + 1) s)
count_turn s i h = count_step special s i 0 h ∙ one_more (count special (drop (i + 1) s)) (special (get_or s i 0))

-- a list that is cut into a block and what stands behind it
module _ (s a b : List ℕ) (n : ℕ) (front : a ≡ take n s) (behind : b ≡ drop n s) where
  whole : a ++ b ≡ s
  whole = rw (front, behind) (take-append-drop n s)

  pub count_cut : count special s ≡ count special a + count special b
  count_cut = rw whole at (count_append special a b)

  pub first_cut : length b + n ≡ length s → n ≤ first special a → first special s ≡ n + first special b
  first_cut l h =
      let long : length a ≡ n = rw front (length-take-le n s (omega arith)) in
      let past = first_past special a b 0 (λ j k. first_before special a 0 j (omega arith)) in
      rw (whole, long) at past
