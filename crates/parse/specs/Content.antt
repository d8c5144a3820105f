-- Reading content: which kind the control field tells, the fields of each kind, and what is refused (document 01, Reading 5 to 7; document
-- 02, M-109).
use Rattle.std.specs.Prelude.{ℕ, Bool, Result, Ok, Err, cond, List, eqb, ltb, length, get_or}
use Rattle.octets.specs.Octet.{field, bit}
use Rattle.protocol.specs.Pid.{pid_of}
use Rattle.control.specs.Mode.{controls}
use Rattle.control.specs.Control.{rr, rnr, rej, sabm, sabme, disc, dm, ua, frmr, ui, xid, test, receive_of, send_of, poll_of, s_kind, u_kind, receive_in, send_in, poll_in}
use Rattle.control.specs.declared.Mode.{Mode}
use Rattle.control.specs.declared.Mode.TheVariants.{Short, Long}
use Rattle.content.specs.declared.CommandResponse.{CommandResponse}
use Rattle.content.specs.declared.CommandResponse.TheVariants.{Command, Response}
use Rattle.content.specs.declared.Information.{Information}
use Rattle.content.specs.declared.UnnumberedInformation.{UnnumberedInformation}
use Rattle.content.specs.declared.FrameReject.{FrameReject}
use Rattle.content.specs.declared.FrameContent.{FrameContent}
use Rattle.content.specs.declared.FrameContent.TheVariants as kind
use Rattle.parse.specs.Report.{Report, number}
use Rattle.parse.specs.declared.ContentError.{ContentError}
use Rattle.parse.specs.declared.ContentError.TheVariants.{ContentZeroLength, MissingPidField, UnrecognisedUFieldType, WrongSizeFrmrInfo, FrameRejectInLongMode, MissingControlOctet}

-- I: control field, PID, info
abbrev pub i_fields_of : Mode → List ℕ → Information
i_fields_of m s = record {
  pid = pid_of (get_or s (controls m) 0);
  receive_sequence = receive_in m s;
  send_sequence = send_in m s;
  poll = poll_in m s;
}

-- 12 where the second control octet is missing, then 5 where the PID is
unfoldable pub i_of : Mode → List ℕ → Result FrameContent ContentError
i_of Short s = cond (ltb (length s) 2) (Err MissingPidField) (Ok (kind.Information (i_fields_of Short s)))
i_of Long s =
    cond (ltb (length s) 2) (Err MissingControlOctet)
    (cond (ltb (length s) 3) (Err MissingPidField)
    (Ok (kind.Information (i_fields_of Long s))))

-- S: the control field alone, a tail ignored (docs/DIFFERENCES.md, A4). The low four bits tell the kind. With low bits 01 they are one of
-- four, and the fourth, D hex, is SREJ
unfoldable pub s_kind_of : ℕ → ℕ → Bool → FrameContent
s_kind_of c receive on =
    cond (eqb (s_kind c) rr) (kind.ReceiveReady (record { receive_sequence = receive; poll_or_final = on }))
    (cond (eqb (s_kind c) rnr) (kind.ReceiveNotReady (record { receive_sequence = receive; poll_or_final = on }))
    (cond (eqb (s_kind c) rej) (kind.Reject (record { receive_sequence = receive; poll_or_final = on }))
    (kind.SelectiveReject (record { receive_sequence = receive; poll_or_final = on }))))

abbrev pub s_frame_of : Mode → List ℕ → FrameContent
s_frame_of m s = s_kind_of (get_or s 0 0) (receive_in m s) (poll_in m s)

-- 12 where the second control octet is missing
unfoldable pub s_of : Mode → List ℕ → Result FrameContent ContentError
s_of Short s = Ok (s_frame_of Short s)
s_of Long s = cond (ltb (length s) 2) (Err MissingControlOctet) (Ok (s_frame_of Long s))

-- UI: control, PID, info
abbrev pub ui_fields_of : List ℕ → UnnumberedInformation
ui_fields_of s = record { pid = pid_of (get_or s 1 0); poll_or_final = poll_of (get_or s 0 0) }

unfoldable pub ui_of : List ℕ → Result FrameContent ContentError
ui_of s = cond (ltb (length s) 2) (Err MissingPidField) (Ok (kind.UnnumberedInformation (ui_fields_of s)))

-- the response bit of FRMR's copy of the sequence numbers: bit 4
unfoldable pub response_of : ℕ → CommandResponse
response_of n = cond (bit 4 n) Response Command

-- FRMR: control; Z Y X W in bits 3 to 0; N(R), response bit and N(S); the rejected control octet. The order of the last three is
-- the Rust's, and not that of AX.25's figure (docs/DIFFERENCES.md, A9); bits without a name are not looked at (A10)
abbrev pub frmr_fields_of : List ℕ → FrameReject
frmr_fields_of s = record {
  final_bit = poll_of (get_or s 0 0);
  rejected_control_field_raw = get_or s 3 0;
  z = bit 3 (get_or s 1 0);
  y = bit 2 (get_or s 1 0);
  x = bit 1 (get_or s 1 0);
  w = bit 0 (get_or s 1 0);
  receive_sequence = receive_of (get_or s 2 0);
  send_sequence = send_of (get_or s 2 0);
  command_response = response_of (get_or s 2 0);
}

-- exactly four octets, and in the short mode alone
unfoldable pub frmr_of : Mode → List ℕ → Result FrameContent ContentError
frmr_of Short s = cond (eqb (length s) 4) (Ok (kind.FrameReject (frmr_fields_of s))) (Err WrongSizeFrmrInfo)
frmr_of Long s = Err FrameRejectInLongMode

-- U: the control octet c alone, a tail ignored (docs/DIFFERENCES.md, A4), save for FRMR, for UI, and for XID and TEST, whose info it is
unfoldable pub u_of : Mode → ℕ → List ℕ → Result FrameContent ContentError
u_of m c s =
    cond (eqb (u_kind c) sabm) (Ok (kind.SetAsynchronousBalancedMode (record { poll = poll_of c })))
    (cond (eqb (u_kind c) sabme) (Ok (kind.SetAsynchronousBalancedModeExtended (record { poll = poll_of c })))
    (cond (eqb (u_kind c) disc) (Ok (kind.Disconnect (record { poll = poll_of c })))
    (cond (eqb (u_kind c) dm) (Ok (kind.DisconnectedMode (record { final_bit = poll_of c })))
    (cond (eqb (u_kind c) ua) (Ok (kind.UnnumberedAcknowledge (record { final_bit = poll_of c })))
    (cond (eqb (u_kind c) frmr) (frmr_of m s)
    (cond (eqb (u_kind c) ui) (ui_of s)
    (cond (eqb (u_kind c) xid) (Ok (kind.ExchangeIdentification (record { poll_or_final = poll_of c })))
    (cond (eqb (u_kind c) test) (Ok (kind.Test (record { poll_or_final = poll_of c })))
    (Err UnrecognisedUFieldType)))))))))

-- content from its control octet on: low bit 0 is I, low bits 01 are S, low bits 11 are U. None at all has a number too
-- (docs/DIFFERENCES.md, B5)
unfoldable pub content_of : Mode → List ℕ → Result FrameContent ContentError
content_of m s =
    cond (eqb (length s) 0) (Err ContentZeroLength)
    (cond (eqb (field 0 1 (get_or s 0 0)) 0) (i_of m s)
    (cond (eqb (field 0 2 (get_or s 0 0)) 1) (s_of m s)
    (u_of m (get_or s 0 0) s)))

-- the number of a refusal and its details (document 01, Numbers; 11 and 12 are document 02's, M-109). Of 4 the detail is the length: content
-- that is empty has length 0
abbrev pub error_report : ContentError → Report
error_report ContentZeroLength = record { number = 4; start = 0; end = 0; len = 0 }
error_report MissingPidField = number 5
error_report UnrecognisedUFieldType = number 7
error_report WrongSizeFrmrInfo = number 8
error_report FrameRejectInLongMode = number 11
error_report MissingControlOctet = number 12

abbrev pub error_number : ContentError → ℕ
error_number e = (error_report e).number

-- and of an answer: 0 where the content is accepted
abbrev pub report_of : Result FrameContent ContentError → Report
report_of (Ok k) = number 0
report_of (Err e) = error_report e

abbrev pub number_of : Result FrameContent ContentError → ℕ
number_of a = (report_of a).number

-- an answer without the content that was read
abbrev pub judged : Result FrameContent ContentError → Result Unit ContentError
judged (Ok k) = Ok tt
judged (Err e) = Err e
