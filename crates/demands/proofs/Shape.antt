-- What a plain frame spells has the shape that document 01 says.
use Prim.Native.Nat.{ℕ, ◌+◌, ◌*◌, ◌<◌}
use mathlib.Core.Path.{◌≡◌, refl, ◌∙◌}
use mathlib.Core.List.{List}
use native.Mathlib.Omega.{arith}
use lib.ListN.{length, get_or, get_or-append}
use lib.Seq.{get_or-drop}
use Rattle.octets.specs.Octet.{bit}
use Rattle.octets.proofs.First.{first_before, first_passes}
use Rattle.protocol.specs.Pid.{octet_of}
use Rattle.control.specs.Mode.{controls}
use Rattle.content.specs.Spell.{front}
use Rattle.control.specs.declared.Mode.{Mode}
use Rattle.control.specs.declared.Mode.TheVariants.{Short, Long}
use Rattle.content.specs.declared.Information.{Information}
use Rattle.content.specs.declared.FrameContent.{FrameContent}
use Rattle.content.specs.declared.FrameContent.TheVariants as kind
use Rattle.content_as_written.proofs.Laws.{front_some}
use Rattle.frame.specs.Spell.{spell, Plain}
use Rattle.frame.specs.declared.Ax25Frame.{Ax25Frame}
use Rattle.frame.proofs.Write.{spell-length}
use Rattle.grammar.proofs.Back.{spelled_end, after-field, spelled-marks}
use Rattle.demands.specs.Shape.{Shape}

-- the PID octet follows the control field
pid_of_lem : (mode : Mode) (k : Information) → get_or (front mode (kind.Information k)) (controls mode) 0 ≡ octet_of k.pid
pid_of_lem Short k = refl
pid_of_lem Long k = refl

inner : (mode : Mode) (k : Information) → controls mode < length (front mode (kind.Information k))
inner Short k = omega arith
inner Long k = omega arith

module _ (mode : Mode) (f : Ax25Frame) (i : List ℕ) (p : Plain mode f i) where
  abbrev n : ℕ
  n = f.route_count

  -- an octet before the info, in what is spelled
  front_at : (k : FrameContent) → f.content ≡ k → (at : ℕ) → at < length (front mode k)
      → get_or (spell mode f i) (14 + 7 * n + at) 0 ≡ get_or (front mode k) at 0
  front_at k e at h =
      rw (← get_or-drop, after-field mode f i p, e) (get_or-append (front mode k) i 0 at h)

  pub shape : Shape mode f i
  shape = record {
    even = λ k h. first_before (bit 0) (spell mode f i) 0 k (rw (spelled_end mode f i p) h);
    last = rw (spelled_end mode f i p) at
        (first_passes (bit 0) (spell mode f i) 0
        (rw (spelled_end mode f i p) (omega (arith, spell-length mode f i, front_some mode f.content p.content))));
    marks = spelled-marks mode f i p;
    i_pid = λ k e. front_at (kind.Information k) e (controls mode) (inner mode k) ∙ pid_of_lem mode k;
    ui_pid = λ k e. let at : 15 + 7 * n ≡ 14 + 7 * n + 1 = omega arith in
        rw at (front_at (kind.UnnumberedInformation k) e 1 (omega arith));
  }
