-- What writing answers and leaves: each answer by its tests, the octets before the info, and the info after them.
use Prim.Native.Nat.{ℕ, ◌+◌, ◌≤◌}
use mathlib.Core.Path.{◌≡◌, refl, sym}
use mathlib.Core.Bool.{true, false, cond}
use mathlib.Core.List.{List, [], ◌∷◌, ◌++◌}
use native.Mathlib.Omega.{arith}
use borrow.Author.Tests.{ltb-false, le-ltb}
use lib.Dec.{ltb}
use lib.ListN.{length, take, length-append}
use Rattle.octets.specs.Splice.{splice}
use Rattle.octets.proofs.Choice.{by, either}
use Rattle.octets.proofs.Splice.{splice-more}
use Rattle.control.specs.Spell.{four}
use Rattle.control.specs.declared.Mode.{Mode}
use Rattle.content.specs.Spell.{has_info, front, spell_content}
use Rattle.content.specs.Refused.{long_frmr, stray_info, stray_pid}
use Rattle.content.specs.declared.FrameContent.{FrameContent}
use Rattle.std.specs.Prelude.{Result, Ok, Err}
use Rattle.octets.specs.Outcome.{giving, length_of, octets_by}
use Rattle.encoding.specs.Encode.{lacks_room, judged, answer_of, encode_number, encode_of, encoded}
use Rattle.encoding.specs.declared.EncodeError.{EncodeError}
use Rattle.encoding.specs.declared.EncodeError.TheVariants.{FrameRejectInLongMode, InfoNotAllowed, PidOutsideClass, NoRoom}

module _ (m : Mode) (k : FrameContent) (info room : ℕ) where
  pub answer-long : long_frmr m k ≡ true → answer_of m k info room ≡ Err FrameRejectInLongMode
  unfolding judged
  answer-long f = rw f

  pub answer-stray : long_frmr m k ≡ false → stray_info k info ≡ true → answer_of m k info room ≡ Err InfoNotAllowed
  unfolding judged
  answer-stray f e = rw (f, e)

  pub answer-outside : long_frmr m k ≡ false → stray_info k info ≡ false → stray_pid k ≡ true → answer_of m k info room ≡ Err PidOutsideClass
  unfolding judged
  answer-outside f e p = rw (f, e, p)

  pub answer-short : long_frmr m k ≡ false → stray_info k info ≡ false → stray_pid k ≡ false → lacks_room m k info room ≡ true
      → answer_of m k info room ≡ Err NoRoom
  unfolding judged
  answer-short f e p l = rw (f, e, p, l)

  pub answer-written : long_frmr m k ≡ false → stray_info k info ≡ false → stray_pid k ≡ false → lacks_room m k info room ≡ false
      → answer_of m k info room ≡ Ok tt
  unfolding judged
  answer-written f e p l = rw (f, e, p, l)

  -- 11 exactly for FRMR in the long mode, then 23 exactly for stray info, then 25 exactly for a stray identifier, then 24 exactly for too
  -- little room
  pub encode_numbers : encode_number (answer_of m k info room)
      ≡ cond (long_frmr m k) 11 (cond (stray_info k info) 23 (cond (stray_pid k) 25 (cond (lacks_room m k info room) 24 0)))
  encode_numbers =
      by (long_frmr m k) (λ f. rw (answer-long f, f) refl)
      (λ f. by (stray_info k info) (λ e. rw (answer-stray f e, f, e) refl)
      (λ e. by (stray_pid k) (λ p. rw (answer-outside f e p, f, e, p) refl)
      (λ p. by (lacks_room m k info room) (λ l. rw (answer-short f e p l, f, e, p, l) refl) (λ l. rw (answer-written f e p l, f, e, p, l) refl))))

-- the length that is given is exact: of the octets that are written
pub encode-length : (m : Mode) (k : FrameContent) (info : List ℕ) (room : ℕ)
    → length_of (encode_of m k (length info) room) ≡ length (encoded m k info room)
encode-length m k info room = exact (answer_of m k (length info) room)
  where
    exact : (a : Result Unit EncodeError) → length_of (giving a (length (front m k) + length info)) ≡ length (octets_by a (spell_content m k info))
    exact (Ok tt) = sym (length-append (front m k) info)
    exact (Err e) = refl

-- where FRMR is not in the long mode, the kind has the info, or there is none, the identifier is not stray and the room suffices, it is
-- written
pub encode-all : (m : Mode) (k : FrameContent) (info : List ℕ) (room : ℕ) → long_frmr m k ≡ false → (has_info k ≡ false → info ≡ [])
    → stray_pid k ≡ false → length (front m k) + length info ≤ room → answer_of m k (length info) room ≡ Ok tt
encode-all m k info room f none p h =
    answer-written m k (length info) room f
    (by (has_info k) (λ e. rw e refl) (λ e. rw (e, none e) refl)) p
    (le-ltb room (length (front m k) + length info) h)

-- what is said of each answer, by the four tests
pub judged_by : {A : Type 0} (f : Result Unit EncodeError → A) (m : Mode) (k : FrameContent) (info whole room : ℕ)
    → f (judged m k info whole room)
    ≡ cond (long_frmr m k) (f (Err FrameRejectInLongMode))
    (cond (stray_info k info) (f (Err InfoNotAllowed))
    (cond (stray_pid k) (f (Err PidOutsideClass))
    (cond (ltb room whole) (f (Err NoRoom)) (f (Ok tt)))))
unfolding judged
judged_by f m k info whole room =
    by (long_frmr m k) (λ a. rw a refl)
    (λ a. by (stray_info k info) (λ b. rw (a, b) refl)
    (λ b. by (stray_pid k) (λ c. rw (a, b, c) refl)
    (λ c. by (ltb room whole) (λ d. rw (a, b, c, d) refl) (λ d. rw (a, b, c, d) refl))))

-- what is written has room
pub judged_room : (m : Mode) (k : FrameContent) (info whole room : ℕ) → judged m k info whole room ≡ Ok tt → ltb room whole ≡ false
unfolding judged
judged_room m k info whole room =
    let P : Result Unit EncodeError → Type 0 = λ r. r ≡ Ok tt → ltb room whole ≡ false in
    either P (long_frmr m k) (λ _ e. absurd (cc e))
    (λ _. either P (stray_info k info) (λ _ e. absurd (cc e))
    (λ _. either P (stray_pid k) (λ _ e. absurd (cc e))
    (λ _. either P (ltb room whole) (λ _ e. absurd (cc e)) (λ l _. l))))

-- four octets hold a list of up to four
pub four-take : (s : List ℕ) → length s ≤ 4 → take (length s) (four s) ≡ s
four-take [] h = refl
four-take (a ∷ []) h = refl
four-take (a ∷ b ∷ []) h = refl
four-take (a ∷ b ∷ c ∷ []) h = refl
four-take (a ∷ b ∷ c ∷ d ∷ []) h = refl
four-take (a ∷ b ∷ c ∷ d ∷ e ∷ s) h = absurd (omega arith)

-- the info written after what stands before it
pub info-after : (out : List ℕ) (m : Mode) (k : FrameContent) (info : List ℕ) → lacks_room m k (length info) (length out) ≡ false
    → splice (splice out 0 (front m k)) (length (front m k)) info ≡ splice out 0 (spell_content m k info)
info-after out m k info e =
    let h : length (front m k) + length info ≤ length out = ltb-false (length out) (length (front m k) + length info) e in
    let more : splice (splice out 0 (front m k)) (0 + length (front m k)) info ≡ splice out 0 (front m k ++ info) =
    splice-more out 0 (front m k) info (omega arith) in
    let z : 0 + length (front m k) ≡ length (front m k) = omega arith in
    rw z at more
