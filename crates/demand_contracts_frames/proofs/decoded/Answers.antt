-- The decode is the definition's, of which the demands are proved.
use Rattle.std.proofs.Common.{◌≡◌, ◌∙◌, refl, sym, ap}
use Rattle.decode.specs.Read.{Decoding, decode}
use Rattle.decode.specs.declared.Decoded.{Decoded}
use Rattle.demands.proofs.Numbers.{decoding}
use Rattle.grammar.proofs.Numbers.{decode_report}
use Rattle.grammar.proofs.Refused.{refused_parts, decoded_known}
use Rattle.grammar.proofs.Stations.{reserved_read}
use Rattle.demand_contracts_frames.specs.Shown.{decoding_of, shown_of}
use Rattle.demand_contracts_frames.proofs.Laws.{decode_shown}
use Rattle.demand_contracts_frames.proofs.decoded.Goals as goal
use Rattle.demand_contracts_frames.proofs.decoded.Goals.{After-show}

whole : (c : After-show) → decoding_of c.show.result ≡ decode c.args.mode c.args.bytes.now
whole c = c.show.ensures ∙ ap shown_of c.from_bytes.ensures ∙ decode_shown c.args.mode c.args.bytes.now

pub returns : goal.returns
returns c =
    let w = whole c in
    let a = ap (λ (d : Decoding). d.answer) w in
    let f = ap (λ (d : Decoding). d.frame) w in
    let i = ap (λ (d : Decoding). d.info_start) w in
    let l = ap (λ (d : Decoding). d.info_len) w in
    record {
      first_row = rw a ((decoding _ _ _).0 refl);
      answer_value = rw a (decode_report _ _);
      frame_value = rw (a, f, i, l) (λ e. refused_parts _ _ e);
      fact = rw f (λ u. decoded_known _ _ u);
      reserves = rw (a, f) (λ e. reserved_read _ _ e);
      value = w;
    }
