-- What the code has in hand of a decode shows all of it: a refusal has the default frame, and no info.
use Rattle.std.proofs.Common.{◌≡◌, ◌∙◌, refl, sym, ap, ℕ, List, Ok, Err}
use Rattle.std.specs.Prelude.{drop}
use Rattle.octets.specs.Outcome.{number_by}
use Rattle.control.specs.declared.Mode.{Mode}
use Rattle.frame.specs.Frame.{default_frame}
use Rattle.frame.specs.declared.Ax25Frame.{Ax25Frame}
use Rattle.decode.specs.Answer.{DecodeAnswer, error_number, number_of}
use Rattle.decode.specs.Read.{Decoding, start_of, decode, outcome}
use Rattle.decode.specs.declared.DecodeError.{DecodeError}
use Rattle.decode.proofs.Read.{number_with}
use Rattle.grammar.specs.Moved.{moved}
use Rattle.grammar.proofs.Refused.{refused_parts}
use Rattle.old_captures.specs.Old.{decode_old}
use Rattle.old_captures.proofs.Laws.{old_accepted}
use Rattle.probe.specs.Places.{places_of, places_in, shown}

abbrev Bare : Decoding → Type 0
Bare d = (r : DecodeError) → d.answer ≡ Err r → (d.frame ≡ default_frame) × (d.info_start ≡ 0) × (d.info_len ≡ 0)

module _ (d : Decoding) (bare : Bare d) where
  frame_by : (a : DecodeAnswer) → d.answer ≡ a → (shown (outcome (record { answer = a; frame = d.frame; info_start = d.info_start; info_len = d.info_len }))).frame ≡ d.frame
  frame_by (Ok u) e = refl
  frame_by (Err r) e = rw (bare r e).0 refl

  places_by : (a : DecodeAnswer) → d.answer ≡ a
      → places_in (outcome (record { answer = a; frame = d.frame; info_start = d.info_start; info_len = d.info_len })) ≡ places_of (record { answer = a; frame = d.frame; info_start = d.info_start; info_len = d.info_len })
  places_by (Ok u) e = refl
  places_by (Err r) e = let b = bare r e in rw (b.1, b.2) refl

  frame_is : (shown (outcome d)).frame ≡ d.frame
  frame_is = frame_by d.answer refl

  places_is : places_in (outcome d) ≡ places_of d
  places_is = places_by d.answer refl

-- of a decode, and of an old capture's
pub record Shown (d : Decoding) : Type 0 where
  pub number : number_by error_number (outcome d) ≡ number_of d.answer
  pub frame : (shown (outcome d)).frame ≡ d.frame
  pub places : places_in (outcome d) ≡ places_of d

shows : (d : Decoding) → Bare d → Shown d
shows d bare = record { number = number_with d.answer _; frame = frame_is d bare; places = places_is d bare }

pub decode_shown : (m : Mode) (s : List ℕ) → Shown (decode m s)
decode_shown m s = shows (decode m s) (λ r e. refused_parts m s (rw e refl))

old_bare : (m : Mode) (s : List ℕ) (a : DecodeAnswer) → (decode m (drop (start_of s) s)).answer ≡ a → Bare (decode_old m s)
unfolding decode_old
old_bare m s (Ok u) e r q =
    let o = old_accepted m s e in
    absurd (cc (sym o ∙ q))
old_bare m s (Err x) e r q =
    let p = refused_parts m (drop (start_of s) s) (rw e refl) in
    (p.0, rw p.1 refl, p.2)

pub old_shown : (m : Mode) (s : List ℕ) → Shown (decode_old m s)
old_shown m s = shows (decode_old m s) (old_bare m s (decode m (drop (start_of s) s)).answer refl)
