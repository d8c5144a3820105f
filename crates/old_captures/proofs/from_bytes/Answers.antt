-- What is decoded of the remainder, moved.
use Rattle.std.proofs.Common.{rules, ◌≡◌, ◌∙◌, refl, sym, ap, arith}
use Rattle.std.specs.Prelude.{drop}
use Rattle.octets.proofs.Splice.{part_from}
use Rattle.decode.specs.Read.{start_of, decode, outcome}
use Rattle.decode.specs.declared.Decoded.{Decoded}
use Rattle.decode.proofs.Read.{start-masked, told_ok, told_err}
use Rattle.old_captures.proofs.Laws.{places_inside, info_inside, old_refused, old_accepted, old_info}
use Rattle.old_captures.proofs.from_bytes.Goals as goal
use Rattle.old_captures.proofs.from_bytes.Goals.{After-from_bytes}

nulls : (c : After-from_bytes) → c.find-nulls.result ≡ start_of c.args.capture.now
nulls c = c.find-nulls.ensures.value ∙ start-masked _ (λ k. search rules)

-- the decode is that of the remainder
rest : (c : After-from_bytes) → c.from_bytes.result ≡ outcome (decode c.args.mode (drop (start_of c.args.capture.now) c.args.capture.now))
rest c = c.from_bytes.ensures ∙ rw (part_from, nulls c) refl

pub moved_info-requires : goal.moved_info-requires
moved_info-requires c =
    let t = told_ok (decode c.args.mode (drop (start_of c.args.capture.now) c.args.capture.now)).answer _ _ (sym (rest (goal.at.moved_info-requires c).After-from_bytes) ∙ c.in-Ok.is) in
    let at = ap (λ (d : Decoded). d.info_start) t.1 in
    omega (arith, at, nulls (goal.at.moved_info-requires c).After-from_bytes, info_inside c.args.mode c.args.capture.now)

pub moved_error-requires : goal.moved_error-requires
moved_error-requires c =
    let o = (goal.at.moved_error-requires c).After-from_bytes in
    let r = told_err (decode c.args.mode (drop (start_of c.args.capture.now) c.args.capture.now)).answer _ _ (sym (rest o) ∙ c.in-Err.is) in
    rw (nulls o) (rw r at (places_inside c.args.mode c.args.capture.now))

pub returns-in-Ok : goal.returns-in-Ok
returns-in-Ok c =
    let t = told_ok (decode c.args.mode (drop (start_of c.args.capture.now) c.args.capture.now)).answer _ _ (sym (rest (goal.at.returns-in-Ok c).After-from_bytes) ∙ c.in-Ok.is) in
    let o = old_info c.args.mode c.args.capture.now in
    rw (c.moved_info.ensures, nulls (goal.at.returns-in-Ok c).After-from_bytes, old_accepted c.args.mode c.args.capture.now t.0, o.0, o.1, o.2, ← t.1) refl

pub returns-in-Err : goal.returns-in-Err
returns-in-Err c =
    let o = (goal.at.returns-in-Err c).After-from_bytes in
    let r = told_err (decode c.args.mode (drop (start_of c.args.capture.now) c.args.capture.now)).answer _ _ (sym (rest o) ∙ c.in-Err.is) in
    rw (c.moved_error.ensures, nulls o, old_refused _ _ _ r) refl
