-- Demand 3, proved.
use Prim.Native.Nat.{ℕ, ◌≤◌, ◌<◌}
use mathlib.Core.Path.{◌≡◌, sym, ◌∙◌}
use mathlib.Core.Bool.{true}
use mathlib.Core.List.{List}
use lib.ListN.{length}
use Rattle.octets.specs.Octet.{Octets}
use Rattle.octets.specs.Splice.{splice}
use Rattle.octets.proofs.Splice.{splice_none}
use Rattle.decode.specs.Answer.{is_accepted}
use Rattle.decode.specs.Read.{decode, info_in}
use Rattle.grammar.proofs.Back.{unique}
use Rattle.spelling.specs.Canonical.{again}
use Rattle.respelling.specs.Reencode.{reencode, reencoded}
use Rattle.std.specs.Prelude.{Ok, Err}
use Rattle.decode.specs.declared.DecodeError.{DecodeError}
use Rattle.respelling.specs.declared.ReencodeError.TheVariants.{Refused, NoRoom}
use Rattle.spelling.proofs.Laws.{spell-canonical, canonical-plain, again-content, again_reserved, again_facts}
use Rattle.respelling.proofs.Laws.{again-room, refused_answer, again-short, again_fits}
use Rattle.octets.specs.Lent.{starting}
use Rattle.demands.specs.OneSpelling.{OneSpelling}
use Rattle.octets.proofs.Lent.{splice_start}
use Rattle.control.specs.declared.Mode.{Mode}

pub one_spelling : (mode : Mode) (s : List ℕ) → Octets s → OneSpelling mode s
one_spelling mode s o = record {
  exact = (
    (λ e. let w = canonical-plain mode s o e in
        record { frame = (decode mode s).frame; info = info_in s (decode mode s); plain = w.1; spells = w.2 }),
    (λ w. rw w.spells at (spell-canonical mode w.frame w.info w.plain)),
  );
  one = λ a b. unique mode a.frame b.frame a.info b.info a.plain b.plain (a.spells ∙ sym b.spells);
  respelled = λ e. let r = again_facts mode s o e in
      record { accepted = r.0; yes = r.1; shorter = r.2; frame = r.3; info = r.4; content = again-content mode s o e; reserved = again_reserved mode s o e };
  written = λ e room h. again-room mode s room o e h;
}

-- what the re-encoder answers and leaves in a buffer: of a refused input, with too little room, with enough
pub respelled-refused : (mode : Mode) (s out : List ℕ) (r : DecodeError) → (decode mode s).answer ≡ Err r
    → (reencode mode s (length out) ≡ Err (Refused r)) × (splice out 0 (reencoded mode s (length out)) ≡ out)
respelled-refused mode s out r e = let a = refused_answer mode s (length out) r e in (a.0, rw a.1 (splice_none out 0))

pub respelled-short : (mode : Mode) (s out : List ℕ) → is_accepted (decode mode s).answer ≡ true → length out < length (again mode s)
    → (reencode mode s (length out) ≡ Err NoRoom) × (splice out 0 (reencoded mode s (length out)) ≡ out)
respelled-short mode s out e h = let r = again-short mode s (length out) e h in (r.0, rw r.1 (splice_none out 0))

pub respelled_into : (mode : Mode) (s out : List ℕ) → is_accepted (decode mode s).answer ≡ true → length (again mode s) ≤ length out
    → (reencode mode s (length out) ≡ Ok (length (again mode s)))
    × (splice out 0 (reencoded mode s (length out)) ≡ starting (again mode s) out)
respelled_into mode s out e h = let r = again_fits mode s (length out) e h in (r.0, rw r.1 (splice_start out (again mode s) h))
