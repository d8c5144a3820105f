-- AX.25's tables of control fields, a line a kind, bit 7 first as they draw it: r is N(R), s is N(S), P is the poll or final bit. A
-- kind's number is its octet with all of these zero. The lines are those of the short mode (modulo 8). In the long mode (modulo 128) an I
-- or S control is two octets, the second r r r r r r r P; the first is s s s s s s s 0 in an I frame, and the kind's number in an S frame.
-- The long mode, SREJ, SABME, XID and TEST are document 02's (M-109; docs/DIFFERENCES.md, B9).
use Rattle.std.specs.Prelude.{ℕ, ◌+◌, ◌*◌, Bool, List, get_or}
use Rattle.octets.specs.Octet.{field, bit}
use Rattle.control.specs.declared.Mode.{Mode}
use Rattle.control.specs.declared.Mode.TheVariants.{Short, Long}
use Rattle.control.specs.declared.Fields.{Fields}

-- information frames end in 0, and have no number of their own: r r r P s s s 0

-- supervisory frames end in 01: receive ready,
-- r r r P 0 0 0 1
abbrev pub rr : ℕ
rr = 0x01

-- receive not ready,
-- r r r P 0 1 0 1
abbrev pub rnr : ℕ
rnr = 0x05

-- reject,
-- r r r P 1 0 0 1
abbrev pub rej : ℕ
rej = 0x09

-- selective reject
-- r r r P 1 1 0 1
abbrev pub srej : ℕ
srej = 0x0D

-- unnumbered frames end in 11: set asynchronous balanced mode,
-- 0 0 1 P 1 1 1 1
abbrev pub sabm : ℕ
sabm = 0x2F

-- set asynchronous balanced mode extended,
-- 0 1 1 P 1 1 1 1
abbrev pub sabme : ℕ
sabme = 0x6F

-- disconnect,
-- 0 1 0 P 0 0 1 1
abbrev pub disc : ℕ
disc = 0x43

-- disconnected mode,
-- 0 0 0 P 1 1 1 1
abbrev pub dm : ℕ
dm = 0x0F

-- unnumbered acknowledge,
-- 0 1 1 P 0 0 1 1
abbrev pub ua : ℕ
ua = 0x63

-- frame reject,
-- 1 0 0 P 0 1 1 1
abbrev pub frmr : ℕ
frmr = 0x87

-- unnumbered information,
-- 0 0 0 P 0 0 1 1
abbrev pub ui : ℕ
ui = 0x03

-- exchange identification,
-- 1 0 1 P 1 1 1 1
abbrev pub xid : ℕ
xid = 0xAF

-- test
-- 1 1 1 P 0 0 1 1
abbrev pub test : ℕ
test = 0xE3

-- N(R), bits 5 to 7, of a short control octet and of FRMR's copies
abbrev pub receive_of : ℕ → ℕ
receive_of c = field 5 3 c

-- N(S), bits 1 to 3
abbrev pub send_of : ℕ → ℕ
send_of c = field 1 3 c

-- the poll or final bit (P/F) of a control field of one octet
abbrev pub poll_of : ℕ → Bool
poll_of c = bit 4 c

-- the low four bits tell the supervisory kind
abbrev pub s_kind : ℕ → ℕ
s_kind c = field 0 4 c

-- all but the P/F bit tell the unnumbered kind
abbrev pub u_kind : ℕ → ℕ
u_kind c = field 5 3 c * 32 + field 0 4 c

-- the fields of an I or S control field, by the mode: N(R), N(S) and the P/F bit
abbrev pub receive_in : Mode → List ℕ → ℕ
receive_in Short s = receive_of (get_or s 0 0)
receive_in Long s = field 1 7 (get_or s 1 0)

abbrev pub send_in : Mode → List ℕ → ℕ
send_in Short s = send_of (get_or s 0 0)
send_in Long s = field 1 7 (get_or s 0 0)

abbrev pub poll_in : Mode → List ℕ → Bool
poll_in Short s = poll_of (get_or s 0 0)
poll_in Long s = bit 0 (get_or s 1 0)

-- all three
abbrev pub fields_in : Mode → List ℕ → Fields
fields_in m s = record { receive = receive_in m s; send = send_in m s; poll = poll_in m s }
