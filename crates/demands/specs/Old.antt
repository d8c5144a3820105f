-- Document 02, M-108: old captures, of which leading nulls are skipped.
use Rattle.std.specs.Prelude.{ℕ, ◌≡◌, false, List, [], ◌∷◌, ◌++◌, take}
use Rattle.protocol.specs.declared.ProtocolIdentifier.TheVariants.{None}
use Rattle.control.specs.declared.Mode.{Mode}
use Rattle.control.specs.declared.Mode.TheVariants.{Short}
use Rattle.content.specs.declared.FrameContent.TheVariants.{ReceiveReady}
use Rattle.decode.specs.Answer.{Report, number, number_of, report_of}
use Rattle.decode.specs.Read.{decode, Decoding}
use Rattle.frame.specs.Frame.{default_frame}
use Rattle.frame.specs.declared.Ax25Frame.{Ax25Frame}
use Rattle.old_captures.specs.Old.{decode_old, former}
use Rattle.demands.specs.Examples.{addresses, whole, with, ui}

-- of a capture s and what was read of it
pub record OldCapture (m : Mode) (s : List ℕ) (d : Decoding) : Type 0 where
  -- all that the decoder gave before leading nulls were refused
  pub before : d ≡ former m s
  -- all that the decoder gives, wherever that does not answer 10
  pub same : (number_of (decode m s).answer ≡ 10 → ⊥) → d ≡ decode m s
  -- 10 is never given
  pub never : number_of d.answer ≡ 10 → ⊥

-- all that is read of a capture in the short mode, and the decoder's number
pub record Capture : Type 0 where
  pub decoder : ℕ
  pub report : Report
  pub frame : Ax25Frame
  pub info_start : ℕ
  pub info_len : ℕ

abbrev pub captured : List ℕ → Capture
captured s = record {
  decoder = number_of (decode Short s).answer;
  report = report_of (decode_old Short s).answer;
  frame = (decode_old Short s).frame;
  info_start = (decode_old Short s).info_start;
  info_len = (decode_old Short s).info_len;
}

abbrev pub refused : ℕ → Report → Capture
refused n r = record { decoder = n; report = r; frame = default_frame; info_start = 0; info_len = 0 }

abbrev pub captures : List (List ℕ)
captures =
    []
    ∷ (0 ∷ 0 ∷ [])
    ∷ (0 ∷ 2 ∷ [])
    -- two nulls, then P3
    ∷ (0 ∷ 0 ∷ (take 12 addresses ++ (0x41 ∷ [])))
    -- a null, then P4
    ∷ (0 ∷ addresses)
    -- P6: a null, then P5
    ∷ (0 ∷ whole)
    -- a null, then an RR, which has no info
    ∷ (0 ∷ (addresses ++ (0x01 ∷ [])))
    ∷ []

abbrev pub as_read : List Capture
as_read =
    refused 1 (number 1)
    ∷ refused 1 (number 1)
    ∷ refused 10 (number 2)
    ∷ refused 10 (record { number = 3; start = 2; end = 14; len = 0 })
    ∷ refused 10 (record { number = 4; start = 0; end = 0; len = 15 })
    ∷ record { decoder = 10; report = number 0; frame = with (ui None); info_start = 17; info_len = 2 }
    ∷ record {
      decoder = 10;
      report = number 0;
      frame = with (ReceiveReady (record { receive_sequence = 0; poll_or_final = false }));
      info_start = 0;
      info_len = 0;
    }
    ∷ []
