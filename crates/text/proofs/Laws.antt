-- The numbers of reading, each given exactly when its condition of the table holds, in the table's order; and that the
-- text of an address reads back as it.
use Rattle.std.proofs.Common.{Result, Ok, Err, IsOk}
use Prim.Native.Nat.{ℕ, zero, suc, ◌+◌, ◌*◌, ◌-◌, ◌/◌, ◌%◌, ◌<◌, ◌≤◌}
use mathlib.Core.Path.{◌≡◌, refl, ap, sym, ◌∙◌}
use mathlib.Core.Bool.{Bool, true, false, false≢true, cond, not, ◌&&◌}
use mathlib.Core.List.{List, [], ◌∷◌, ◌++◌}
use native.Mathlib.Nat.{add-zero}
use native.Mathlib.Omega.{arith}
use borrow.Author.Tests.{lt-ltb, le-ltb, le-leb, leb-true, ltb-true, ne_eqb, eqb-true, eqb-false, ltb-false, not-true}
use lib.Dec.{eqb, ltb, leb}
use lib.ListN.{length, get_or, take, drop, length-append, get_or-eq_default}
use lib.Seq.{get_or-drop, drop-append-add, take-append_seam}
use Rattle.octets.specs.All.{all}
use Rattle.octets.specs.First.{first}
use Rattle.octets.proofs.Choice.{by, both, and_false, either}
use Rattle.octets.proofs.All.{all_nil, all_cons, all_at, all_append, all-follows}
use Rattle.octets.proofs.Count.{count_append}
use Rattle.octets.proofs.First.{first_step, first_end, first_past}
use Rattle.octets.proofs.Octet.{octet_where}
use Rattle.address.specs.declared.Address.{Address}
use Rattle.text.specs.declared.AddressError.{AddressError}
use Rattle.octets.specs.Outcome.{number_by}
use Rattle.address.specs.Address.{low, reserved_ones, with_ones, no_call, encodable, PlainAddress}
use Rattle.octets.specs.Count.{count}
use Rattle.text.specs.Text.{address_number_of, address_read, hyphen, digit, upper_case, lower_case, alphanumeric, upper, upper_at, decimal_from, decimal, digits8, after_plus, callsign_text, many_hyphens, empty, long, wide, has_ssid, ssid_text, ssid_value, bad_ssid, padded, read_callsign, read_parts, read_text, upper_or_digit, TextAddress, high, strange}
use Rattle.printing.specs.Print.{space, used, trimmed, decimal_text, ssid_suffix, text_of}
use Rattle.address.proofs.Laws.{six_list, no_call-plain, no_call_ones, encodable_is}
use Rattle.printing.proofs.Laws.{used_le, trimmed-length}

-- the rows that both tables end with: empty (32); 31; characters (32); 34
abbrev pub callsign_rows : List ℕ → ℕ → ℕ
callsign_rows c s = cond (empty c) 32 (cond (long c) 31 (cond (strange c) 32 (cond (wide s) 34 0)))

-- the numbers that reading gives
callsign_numbers : (c : List ℕ) (s : ℕ) → number_by address_number_of (read_callsign c s) ≡ callsign_rows c s
unfolding read_callsign
callsign_numbers c s =
    by (empty c) (λ e. simp e) (λ e.
    by (long c) (λ l. simp (e, l)) (λ l.
    by (all alphanumeric c) (λ x. by (wide s) (λ w. simp (e, l, x, w)) (λ w. simp (e, l, x, w))) (λ x. simp (e, l, x))))

pub parts_numbers : (c : List ℕ) (s : ℕ) → number_by address_number_of (read_parts c s) ≡ cond (high c) 35 (callsign_rows c s)
unfolding read_parts
parts_numbers c s = by (all low c) (λ h. simp h (callsign_numbers c s)) (λ h. simp h)

pub text_numbers : (t : List ℕ)
    → number_by address_number_of (read_text t)
    ≡ cond (high t) 35 (cond (many_hyphens t) 32 (cond (bad_ssid t) 33 (callsign_rows (callsign_text t) (ssid_value t))))
unfolding read_text
text_numbers t =
    by (all low t) (λ h.
    by (many_hyphens t) (λ m. simp (h, m)) (λ m.
    by (bad_ssid t) (λ b. simp (h, m, b)) (λ b. simp (h, m, b) (callsign_numbers (callsign_text t) (ssid_value t)))))
    (λ h. simp h)

-- a refused read gives NOCALL, and what is not refused the address that was read
refused : (r : Result Address AddressError) → (IsOk r → ⊥) → address_read r ≡ no_call
refused (Ok a) n = absurd (n refl)
refused (Err e) n = refl

read : (r : Result Address AddressError) → IsOk r → r ≡ Ok (address_read r)
read (Ok a) e = refl
read (Err e) h = absurd (false≢true h)

pub parts-refused : (c : List ℕ) (s : ℕ) → (IsOk (read_parts c s) → ⊥) → address_read (read_parts c s) ≡ no_call
parts-refused c s = refused (read_parts c s)

pub text-refused : (t : List ℕ) → (IsOk (read_text t) → ⊥) → address_read (read_text t) ≡ no_call
text-refused t = refused (read_text t)

-- upper-case letters and digits, as the other tests see them: octets, so that each is one computed test
fine_octet : (c : ℕ) → upper_or_digit c ≡ true → c < 256
fine_octet c e =
    by (digit c)
    (λ d. let h : c ≤ 57 = leb-true c 57 (both (leb 48 c) (leb c 57) d).1 in omega arith)
    (λ d.
    let u : upper_case c ≡ true = rw d at e in
    let h : c ≤ 90 = leb-true c 90 (both (leb 65 c) (leb c 90) u).1 in
    omega arith)

fine-low : (c : ℕ) → upper_or_digit c ≡ true → low c ≡ true
fine-low c e = octet_where upper_or_digit low tt c (fine_octet c e) e

fine-alphanumeric : (c : ℕ) → upper_or_digit c ≡ true → alphanumeric c ≡ true
fine-alphanumeric c e = octet_where upper_or_digit alphanumeric tt c (fine_octet c e) e

other : ℕ → Bool
other c = not (hyphen c)

fine-other : (c : ℕ) → upper_or_digit c ≡ true → other c ≡ true
unfolding other
fine-other c e = octet_where upper_or_digit (λ n. not (hyphen n)) tt c (fine_octet c e) e

fine-upper : (c : ℕ) → upper_or_digit c ≡ true → upper c ≡ c
unfolding upper
fine-upper c e = eqb-true (upper c) c (octet_where upper_or_digit (λ n. eqb (upper n) n) tt c (fine_octet c e) e)

-- the suffix of an SSID, as the reader sees it
record Suffix (u : List ℕ) (s : ℕ) : Type 0 where
  lows : all low u ≡ true
  hyphens : count hyphen u ≤ 1
  start : first hyphen u ≡ 0
  value : cond (ltb 0 (length u)) (decimal (after_plus (drop 1 u))) 0 ≡ s
  number : (ltb 0 (length u) && not (digits8 (after_plus (drop 1 u)))) ≡ false

none : Suffix [] 0
unfolding count
none = record {
  lows = all_nil low;
  hyphens = omega arith;
  start = first_end hyphen [] 0 (omega arith);
  value = refl;
  number = refl;
}

is_digit : (c : ℕ) → 48 ≤ c → c ≤ 57 → digit c ≡ true
is_digit c l h = simp (le-leb 48 c l, le-leb c 57 h)

one : (s d : ℕ) → 0 < s → s < 10 → d ≡ 48 + s → Suffix (45 ∷ d ∷ []) s
unfolding count after_plus decimal_from digits8
one s d l h e = record {
  lows = simp (all_cons, all_nil, lt-ltb d 128 (omega arith));
  hyphens = simp (ne_eqb d 45 (λ z. omega arith)) (omega arith);
  start = first_step hyphen (45 ∷ d ∷ []) 0 0 (omega arith);
  value = simp (ne_eqb d 43 (λ z. omega arith)) (omega arith);
  number = simp (ne_eqb d 43 (λ z. omega arith), all_cons, all_nil, le-leb 48 d (omega arith), le-leb d 57 (omega arith), le-leb (0 * 10 + (d - 48)) 255 (omega arith));
}

two : (s d e : ℕ) → 10 ≤ s → s ≤ 15 → d ≡ 48 + s / 10 → e ≡ 48 + s % 10 → Suffix (45 ∷ d ∷ e ∷ []) s
unfolding count after_plus decimal_from digits8
two s d e l h f g =
    let plus : eqb d 43 ≡ false = ne_eqb d 43 (λ z. omega arith) in
    let v : (0 * 10 + (d - 48)) * 10 + (e - 48) ≡ s = omega arith in
    record {
      lows = simp (all_cons, all_nil, lt-ltb d 128 (omega arith), lt-ltb e 128 (omega arith));
      hyphens = simp (ne_eqb d 45 (λ z. omega arith), ne_eqb e 45 (λ z. omega arith)) (omega arith);
      start = first_step hyphen (45 ∷ d ∷ e ∷ []) 0 0 (omega arith);
      value = simp plus v;
      number = simp (
        plus,
        all_cons,
        all_nil,
        is_digit d (omega arith) (omega arith),
        is_digit e (omega arith) (omega arith),
        le-leb ((0 * 10 + (d - 48)) * 10 + (e - 48)) 255 (omega arith),
      );
    }

suffix : (s : ℕ) → s ≤ 15 → Suffix (ssid_suffix s) s
unfolding ssid_suffix decimal_text
suffix s h =
    by (eqb s 0)
    (λ z. rw (eqb-true s 0 z) none)
    (λ z. let p : 0 < s = positive s (eqb-false s 0 z) in
    by (ltb s 10)
    (λ l. simp (z, l) (one s (48 + s) p (ltb-true s 10 l) refl))
    (λ l. simp (z, l) (two s (48 + s / 10) (48 + s % 10) (ltb-false s 10 l) h refl refl)))
  where
    positive : (s : ℕ) → (s ≡ 0 → ⊥) → 0 < s
    positive zero n = absurd (n refl)
    positive (suc s) n = omega arith

-- padding comes back
trimmed_get_d : (s : List ℕ) (k : ℕ) → get_or (trimmed s) k 32 ≡ get_or s k 32
unfolding used
trimmed_get_d [] k = refl
trimmed_get_d (c ∷ s) zero =
    by (eqb (used s) 0 && space c)
    (λ e. simp e (sym (eqb-true c 32 (both (eqb (used s) 0) (space c) e).1)))
    (λ e. simp e)
trimmed_get_d (c ∷ s) (suc k) =
    by (eqb (used s) 0 && space c)
    (λ e. let z : used s ≡ 0 = eqb-true (used s) 0 (both (eqb (used s) 0) (space c) e).0 in
    let h : get_or (take (used s) s) k 32 ≡ get_or s k 32 = trimmed_get_d s k in
    simp e (rw z at h))
    (λ e. simp e (trimmed_get_d s k))

upper_kept : (c : List ℕ) → all upper_or_digit c ≡ true → (k : ℕ) → upper (get_or c k 32) ≡ get_or c k 32
unfolding upper
upper_kept c h k =
    by (ltb k (length c))
    (λ l. fine-upper (get_or c k 32) (all_at upper_or_digit c 32 k (ltb-true k (length c) l) h))
    (λ l. rw (get_or-eq_default c 32 (ltb-false k (length c) l)) refl)

padded-back : (s : List ℕ) → length s ≡ 6 → all upper_or_digit (trimmed s) ≡ true → padded (trimmed s) ≡ s
unfolding padded
padded-back s six h =
    let kept : (k : ℕ) → upper (get_or (trimmed s) k 32) ≡ get_or s k 32 = λ k. upper_kept (trimmed s) h k ∙ trimmed_get_d s k in
    rw (kept 0, kept 1, kept 2, kept 3, kept 4, kept 5) (six_list 32 s six)

-- nothing in a list that has no hyphen counts as one
count_none : (c : List ℕ) → all other c ≡ true → count hyphen c ≡ 0
unfolding count other
count_none [] e = refl
count_none (x ∷ c) e =
    let h = both (other x) (all other c) (rw all_cons at e) in
    rw (not-true (hyphen x) h.0) (count_none c h.1)

-- a callsign without hyphens and a suffix come apart again
module _ (c u : List ℕ) (s : ℕ) (q : Suffix u s) (o : all other c ≡ true) where
  seam : first hyphen (c ++ u) ≡ length c
  unfolding other
  seam = first_past hyphen c u 0 (λ j l. not-true (hyphen (get_or c j 0)) (all_at other c 0 j l o)) ∙ rw q.start (add-zero (length c))

  front : callsign_text (c ++ u) ≡ c
  front = rw seam (take-append_seam c u)

  back : ssid_text (c ++ u) ≡ drop 1 u
  back = rw seam (drop-append-add c u 1)

  has : has_ssid (c ++ u) ≡ ltb 0 (length u)
  has =
      let n : length (c ++ u) ≡ length c + length u = length-append c u in
      rw (seam, n)
      (by (ltb 0 (length u))
      (λ e. rw e (lt-ltb (length c) (length c + length u) (omega (arith, ltb-true 0 (length u) e))))
      (λ e. rw e (le-ltb (length c) (length c + length u) (omega (arith, ltb-false 0 (length u) e)))))

  number : bad_ssid (c ++ u) ≡ false
  unfolding bad_ssid
  number = rw (has, back) q.number

  value : ssid_value (c ++ u) ≡ s
  unfolding ssid_value
  value = rw (has, back) q.value

  few : many_hyphens (c ++ u) ≡ false
  few = le-ltb 1 (count hyphen (c ++ u)) (omega (arith, count_append hyphen c u, count_none c o, q.hyphens))

accepted : (c : List ℕ) (s : ℕ) → 0 < length c → length c ≤ 6 → all alphanumeric c ≡ true → s ≤ 15
    → read_callsign c s ≡ Ok (with_ones (padded c) s)
unfolding read_callsign
accepted c s n l h w = simp (ne_eqb (length c) 0 (λ z. omega arith), le-ltb 6 (length c) l, h, le-ltb 15 s w)

-- the text of an address that people write reads back as its callsign and SSID: the text does not show the reserved bits
pub print-back : (a : Address) → TextAddress a → read_text (text_of a) ≡ Ok (with_ones a.callsign a.ssid)
unfolding read_text
print-back a p =
    let c : List ℕ = trimmed a.callsign in
    let u : List ℕ = ssid_suffix a.ssid in
    let q = suffix a.ssid p.small in
    let o : all other c ≡ true = all-follows upper_or_digit other fine-other c p.characters in
    let n : length c ≡ used a.callsign = trimmed-length a.callsign in
    let lows : all low (c ++ u) ≡ true = all_append low c u ∙ rw (all-follows upper_or_digit low fine-low c p.characters, q.lows) refl in
    let read : read_callsign c a.ssid ≡ Ok (with_ones (padded c) a.ssid) =
    accepted c a.ssid (omega (arith, p.some)) (omega (arith, used_le a.callsign, p.six))
    (all-follows upper_or_digit alphanumeric fine-alphanumeric c p.characters) p.small in
    simp (lows, few c u _ q o, number c u _ q o)
    (rw (front c u _ q o, value c u _ q o) (read ∙ rw (padded-back a.callsign p.six p.characters) refl))

-- what is read can be written: a refused read gives NOCALL
alphanumeric_octet : (c : ℕ) → alphanumeric c ≡ true → c < 256
alphanumeric_octet c e =
    by (upper_or_digit c)
    (λ u. fine_octet c u)
    (λ u.
    let l : lower_case c ≡ true = rw u at e in
    let h : c ≤ 122 = leb-true c 122 (both (leb 97 c) (leb c 122) l).1 in
    omega arith)

upper_fine : (c : ℕ) → alphanumeric c ≡ true → upper_or_digit (upper c) ≡ true
unfolding upper
upper_fine c e = octet_where alphanumeric (λ n. upper_or_digit (upper n)) tt c (alphanumeric_octet c e) e

upper-low : (c : List ℕ) → all alphanumeric c ≡ true → (k : ℕ) → low (upper_at c k) ≡ true
unfolding upper
upper-low c h k =
    by (ltb k (length c))
    (λ l. fine-low (upper_at c k) (upper_fine (get_or c k 32) (all_at alphanumeric c 32 k (ltb-true k (length c) l) h)))
    (λ l. rw (get_or-eq_default c 32 (ltb-false k (length c) l)) refl)

padded-plain : (c : List ℕ) (s : ℕ) → all alphanumeric c ≡ true → s ≤ 15 → PlainAddress (with_ones (padded c) s)
unfolding padded encodable
padded-plain c s h l = record {
  six = refl;
  writable = simp (
    le-leb s 15 l,
    all_cons,
    all_nil,
    upper-low c h 0,
    upper-low c h 1,
    upper-low c h 2,
    upper-low c h 3,
    upper-low c h 4,
    upper-low c h 5,
  );
}

callsign-plain : (c : List ℕ) (s : ℕ) → PlainAddress (address_read (read_callsign c s))
unfolding read_callsign
callsign-plain c s =
    by (empty c) (λ e. simp e no_call-plain) (λ e.
    by (long c) (λ l. simp (e, l) no_call-plain) (λ l.
    by (all alphanumeric c)
    (λ x. by (wide s) (λ w. simp (e, l, x, w) no_call-plain) (λ w. simp (e, l, x, w) (padded-plain c s x (ltb-false 15 s w))))
    (λ x. simp (e, l, x) no_call-plain)))

pub parts-plain : (c : List ℕ) (s : ℕ) → PlainAddress (address_read (read_parts c s))
unfolding read_parts
parts-plain c s = by (all low c) (λ h. simp h (callsign-plain c s)) (λ h. simp h no_call-plain)

pub text-plain : (t : List ℕ) → PlainAddress (address_read (read_text t))
unfolding read_text
text-plain t =
    by (all low t) (λ h.
    by (many_hyphens t) (λ m. simp (h, m) no_call-plain) (λ m.
    by (bad_ssid t) (λ b. simp (h, m, b) no_call-plain) (λ b. simp (h, m, b) (callsign-plain (callsign_text t) (ssid_value t)))))
    (λ h. simp h no_call-plain)

-- what is read is an address that people write
no-space : (c : ℕ) → alphanumeric c ≡ true → space (upper c) ≡ false
unfolding upper
no-space c e =
    not-true (space (upper c)) (octet_where alphanumeric (λ n. not (space (upper n))) tt c (alphanumeric_octet c e) e)

-- the padding, one character after the other
cells : ℕ → List ℕ → List ℕ
cells zero c = []
cells (suc n) c = upper_at c 0 ∷ cells n (drop 1 c)

cells_six : (c : List ℕ) → padded c ≡ cells 6 c
unfolding padded cells
cells_six c = simp get_or-drop

cells_spaces : (n : ℕ) → used (cells n []) ≡ 0
unfolding cells used upper
cells_spaces zero = refl
cells_spaces (suc n) = simp (cells_spaces n)

cells-used : (n : ℕ) (c : List ℕ) → length c ≤ n → all alphanumeric c ≡ true → used (cells n c) ≡ length c
unfolding cells used
cells-used n [] l h = cells_spaces n
cells-used zero (x ∷ c) l h = absurd (omega arith)
cells-used (suc n) (x ∷ c) l h =
    let f = both (alphanumeric x) (all alphanumeric c) (rw all_cons at h) in
    simp (cells-used n c (omega arith) f.1, no-space x f.0, and_false)

cells_fine : (n : ℕ) (c : List ℕ) → length c ≤ n → all alphanumeric c ≡ true → all upper_or_digit (take (length c) (cells n c)) ≡ true
unfolding cells
cells_fine n [] l h = all_nil upper_or_digit
cells_fine zero (x ∷ c) l h = absurd (omega arith)
cells_fine (suc n) (x ∷ c) l h =
    let f = both (alphanumeric x) (all alphanumeric c) (rw all_cons at h) in
    simp (all_cons, upper_fine x f.0, cells_fine n c (omega arith) f.1)

padded_six : (c : List ℕ) → length (padded c) ≡ 6
unfolding padded
padded_six c = refl

padded_address : (c : List ℕ) (s : ℕ) → 0 < length c → length c ≤ 6 → all alphanumeric c ≡ true → s ≤ 15
    → TextAddress (with_ones (padded c) s)
padded_address c s n l h w =
    let u : used (padded c) ≡ length c = rw cells_six (cells-used 6 c l h) in
    record {
      six = padded_six c;
      some = rw u n;
      characters = rw (u, cells_six) (cells_fine 6 c l h);
      small = w;
      reserves = omega arith;
    }

callsign_address : (c : List ℕ) (s : ℕ) → IsOk (read_callsign c s) → TextAddress (address_read (read_callsign c s))
unfolding read_callsign
callsign_address c s =
    by (empty c) (λ e. simp e (λ z. absurd (false≢true z))) (λ e.
    by (long c) (λ l. simp (e, l) (λ z. absurd (false≢true z))) (λ l.
    by (all alphanumeric c)
    (λ x. by (wide s) (λ w. simp (e, l, x, w) (λ z. absurd (false≢true z)))
    (λ w. let n : 0 < length c = some c (eqb-false (length c) 0 e) in
    simp (e, l, x, w) (λ z. padded_address c s n (ltb-false 6 (length c) l) x (ltb-false 15 s w))))
    (λ x. simp (e, l, x) (λ z. absurd (false≢true z)))))
  where
    some : (c : List ℕ) → (length c ≡ 0 → ⊥) → 0 < length c
    some [] n = absurd (n refl)
    some (x ∷ c) n = omega arith

pub text_address : (t : List ℕ) → IsOk (read_text t) → TextAddress (address_read (read_text t))
unfolding read_text
text_address t =
    by (all low t) (λ h.
    by (many_hyphens t) (λ m. simp (h, m) (λ z. absurd (false≢true z))) (λ m.
    by (bad_ssid t) (λ b. simp (h, m, b) (λ z. absurd (false≢true z)))
    (λ b. simp (h, m, b) (callsign_address (callsign_text t) (ssid_value t)))))
    (λ h. simp h (λ z. absurd (false≢true z)))

-- whatever is read has both reserved bits set
abbrev Ones : Result Address AddressError → Type 0
Ones r = (address_read r).reserved ≡ reserved_ones

callsign_ones : (c : List ℕ) (s : ℕ) → (address_read (read_callsign c s)).reserved ≡ reserved_ones
unfolding read_callsign
callsign_ones c s =
    either Ones (empty c) (λ _. no_call_ones)
    (λ _. either Ones (long c) (λ _. no_call_ones)
    (λ _. either Ones (strange c) (λ _. no_call_ones)
    (λ _. either Ones (wide s) (λ _. no_call_ones) (λ _. refl))))

pub parts_ones : (c : List ℕ) (s : ℕ) → (address_read (read_parts c s)).reserved ≡ reserved_ones
unfolding read_parts
parts_ones c s = either Ones (high c) (λ _. no_call_ones) (λ _. callsign_ones c s)

pub text_ones : (t : List ℕ) → (address_read (read_text t)).reserved ≡ reserved_ones
unfolding read_text
text_ones t =
    either Ones (high t) (λ _. no_call_ones)
    (λ _. either Ones (many_hyphens t) (λ _. no_call_ones)
    (λ _. either Ones (bad_ssid t) (λ _. no_call_ones) (λ _. callsign_ones (callsign_text t) (ssid_value t))))

-- so an accepted text, printed and read again, is the same address
pub text-back : (t : List ℕ) → IsOk (read_text t) → read_text (text_of (address_read (read_text t))) ≡ read_text t
text-back t e =
    let a : Address = address_read (read_text t) in
    let ones : Ok (with_ones a.callsign a.ssid) ≡ Ok a =
    ap (λ (n : ℕ). Ok (record { callsign = a.callsign; ssid = a.ssid; reserved = n })) (sym (text_ones t)) in
    print-back a (text_address t e) ∙ ones ∙ sym (read (read_text t) e)

-- and an address that people write can be printed
pub text_writable : (a : Address) → TextAddress a → encodable a ≡ true
text_writable a p =
    let q = text-plain (text_of a) in
    let t : encodable (with_ones a.callsign a.ssid) ≡ true = (rw (print-back a p) at q).writable in
    encodable_is a ∙ rw (le-leb a.reserved 3 p.reserves) (sym (encodable_is (with_ones a.callsign a.ssid)) ∙ t)
