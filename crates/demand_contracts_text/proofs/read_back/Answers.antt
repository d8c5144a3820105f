-- What is printed of an address that people write is its text, and that reads back.
use Prim.Native.Nat.{ℕ, ◌≤◌}
use mathlib.Core.Path.{◌≡◌, refl, sym, ◌∙◌}
use mathlib.Core.List.{List}
use lib.ListN.{length, take, drop}
use lib.Seq.{take_at, length-take-le}
use Rattle.address.specs.Address.{with_ones}
use Rattle.address.specs.declared.Address.{Address}
use Rattle.printing.specs.Print.{text_of, printed, printed_into}
use Rattle.octets.specs.Outcome.{length_of}
use Rattle.printing.proofs.Laws.{printed_text, print_within, print_fits, length-unwrapped}
use Rattle.text.specs.Text.{read_text, TextAddress}
use Rattle.text.proofs.Laws.{print-back, text_writable}
use Rattle.std.proofs.Common.{Ok}
use borrow.Author.Rules.{rules}
use Rattle.demand_contracts_text.proofs.read_back.Goals as goal

back : (a : Address) (out : List ℕ) → TextAddress a → length (text_of a) ≤ length out
    → read_text (take (length_of (printed a (length out))) (printed_into a out)) ≡ Ok (with_ones a.callsign a.ssid)
back a out p h =
    let e = text_writable a p in
    rw (print_fits a (length out) e h, printed_text a out e h, take_at (text_of a) (drop (length (text_of a)) out) (length (text_of a)) refl) (print-back a p)

-- what was printed lies within the buffer
within : (a : Address) (out left : List ℕ) (n : ℕ) → length left ≡ length out → n ≡ length_of (printed a (length out)) → n ≤ length left
within a out left n same e = rw (same, e) (print_within a (length out))

pub slice_bounds-from_str-end : goal.slice_bounds-from_str-end
slice_bounds-from_str-end c =
    let same : length c.print.new.out ≡ length c.args.out.now = search rules in
    within c.args.address c.args.out.now c.print.new.out c.unwrap_or-length.result same (c.unwrap_or-length.ensures ∙ rw c.print.ensures.value (length-unwrapped (printed c.args.address (length c.args.out.now))))

pub slice_bounds-from_str-end-2 : goal.slice_bounds-from_str-end-2
slice_bounds-from_str-end-2 c =
    let same : length c.print.new.out ≡ length c.args.out.now = search rules in
    sym (length-take-le _ _ (within c.args.address c.args.out.now c.print.new.out c.unwrap_or-length.result same (c.unwrap_or-length.ensures ∙ rw c.print.ensures.value (length-unwrapped (printed c.args.address (length c.args.out.now))))))

pub returns : goal.returns
returns c =
    let w = c.print.ensures in
    let a = c.args in
    let e : c.from_str.result ≡ read_text (take (length_of (printed a.address (length a.out.now))) (printed_into a.address a.out.now)) =
    c.from_str.ensures ∙ rw (c.unwrap_or-length.ensures, w.value, w.out_after, length-unwrapped) refl in
    record {
      answer_value = λ p h.
          let q = e ∙ back a.address a.out.now p h in
          (rw q refl, rw q refl);
      value = e;
      out_after = w.out_after;
    }
