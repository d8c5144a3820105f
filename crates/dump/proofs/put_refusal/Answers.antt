use Rattle.std.proofs.Common.{◌≡◌, ◌++◌, refl, ap}
use Rattle.std.proofs.lemmas.List.{append_assoc}
use Rattle.decode.specs.Answer.{error_number}
use Rattle.decode.specs.declared.DecodeError.{DecodeError}
use Rattle.words.specs.Ascii.{ascii}
use Rattle.words.specs.Words.{decimal}
use Rattle.words.proofs.Room.{cut_then}
use Rattle.dump.specs.Dump.{detail_text, refusal_text}
use Rattle.dump.proofs.Laws.{no_details}
use Rattle.dump.proofs.put_refusal.Goals as goal

refusal_parts : (a : DecodeError) → refusal_text a ≡ ascii "answer=" ++ (decimal (error_number a) ++ (ascii "\n" ++ detail_text a))
unfolding refusal_text
refusal_parts a = rw (append_assoc (decimal (error_number a)) (ascii "\n")) refl

pub returns-in-AddressFieldTooShort : goal.returns-in-AddressFieldTooShort
returns-in-AddressFieldTooShort c =
    rw (c.put_number-in-AddressFieldTooShort-2.ensures, c.put_number-in-AddressFieldTooShort.ensures, c.put_number.ensures, c.number.ensures, refusal_parts, ap detail_text c.in-AddressFieldTooShort.is) (simp (cut_then, append_assoc))

pub returns-in-FrameTooShort : goal.returns-in-FrameTooShort
returns-in-FrameTooShort c =
    rw (c.put_number-in-FrameTooShort.ensures, c.put_number.ensures, c.number.ensures, refusal_parts, ap detail_text c.in-FrameTooShort.is) (simp (cut_then, append_assoc))

pub returns-in_default : goal.returns-in_default
returns-in_default c =
    rw (c.put_number.ensures, c.number.ensures, refusal_parts, no_details c.args.error c.in_default.not-AddressFieldTooShort c.in_default.not-FrameTooShort) refl
