-- Document 02, M-110, proved; the settled cases compute.
use Prim.Native.Nat.{ℕ}
use mathlib.Core.Path.{◌≡◌, refl, ap, sym, ◌∙◌}
use mathlib.Core.List.{List, map}
use borrow.Author.Tests.{eq-eqb, eqb-true}
use Rattle.octets.specs.First.{first}
use Rattle.octets.specs.Octet.{Octets}
use Rattle.control.specs.declared.Mode.{Mode}
use Rattle.parse.specs.Content.{i_of, s_kind_of, s_of, ui_of, response_of, frmr_of, u_of, content_of}
use Rattle.content_as_written.specs.AsWritten.{is_tidy, has_tail}
use Rattle.decode.specs.Read.{refused_with, accepted_with, with_content, decode_field, decode}
use Rattle.reason.specs.Reason.{first_of, accepted_reason, reason_of, place_of, why_of, code_of}
use Rattle.reason.specs.declared.Reason.{Reason}
use Rattle.reason.specs.declared.Reason.TheVariants.{None, Refused}
use Rattle.reason.specs.declared.Why.{Why}
use Rattle.reason.proofs.Laws.{why_is, refused_why, accepted_why}
use Rattle.spelling.proofs.Laws.{canonical_none}
use Rattle.demands.proofs.Numbers.{decoding}
use Rattle.demands.specs.Reasons.{Told, Pair, pairs, Place, places}

pub told : (m : Mode) (s : List ℕ) → Octets s → Told m s
told m s o =
    let why = why_is m s in
    let code = ap code_of why.0 in
    record {
      none = (
        (λ e. canonical_none m s o ∙ eq-eqb (code_of (reason_of m s)) 0 (sym code ∙ e)),
        (λ e. code ∙ eqb-true (code_of (reason_of m s)) 0 (sym (canonical_none m s o) ∙ e)),
      );
      number = (decoding m s _).0 (sym why.1);
      refused = refused_why m s;
      accepted = accepted_why m s;
    }

pub reason-pairs : map {B = Reason × Reason} (λ (p : Pair). (reason_of p.mode p.with, reason_of p.mode p.without)) pairs
    ≡ map {B = Reason × Reason} (λ (p : Pair). (p.reason, None)) pairs
unfolding first i_of s_kind_of s_of ui_of response_of frmr_of u_of content_of is_tidy has_tail refused_with accepted_with with_content decode_field decode first_of accepted_reason reason_of
reason-pairs = refl

pub reason-places : map (λ (p : Place). why_of p.mode p.input) places
    ≡ map {B = Why} (λ (p : Place). record { reason = Refused; number = p.number; place = p.place }) places
unfolding first i_of s_kind_of s_of ui_of response_of frmr_of u_of content_of refused_with accepted_with with_content decode_field decode reason_of place_of why_of
reason-places = refl
