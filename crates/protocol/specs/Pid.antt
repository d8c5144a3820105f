-- The protocol identifier octet (PID), which follows the control field of I and UI frames: AX.25's table of PID values (rule 7).
use Rattle.std.specs.Prelude.{ℕ, Bool, true, false, cond, not, ◌&&◌, ◌||◌, List, [], ◌∷◌, eqb, ltb}
use Rattle.octets.specs.Octet.{field}
use Rattle.protocol.specs.declared.ProtocolIdentifier.{ProtocolIdentifier}
use Rattle.protocol.specs.declared.ProtocolIdentifier.TheVariants.{Layer3Impl, X25Plp, CompressedTcpIp, UncompressedTcpIp, SegmentationFragment, TexnetDatagram, LinkQuality, Appletalk, AppletalkArp, ArpaIp, ArpaAddress, Flexnet, NetRom, None, Escape, Unknown}

-- the layer 3 class, yy01yyyy and yy10yyyy: bits 5 and 4 are 01 or 10
abbrev pub layer3 : ℕ → Bool
layer3 b = eqb (field 4 2 b) 1 || eqb (field 4 2 b) 2

-- the octet that is written. A layer 3 identifier carries its own (docs/DIFFERENCES.md, B6); FF hex stands alone, without a second octet
-- of the identifier (A11)
abbrev pub octet_of : ProtocolIdentifier → ℕ
octet_of (Layer3Impl b) = b
octet_of X25Plp = 0x01
octet_of CompressedTcpIp = 0x06
octet_of UncompressedTcpIp = 0x07
octet_of SegmentationFragment = 0x08
octet_of TexnetDatagram = 0xC3
octet_of LinkQuality = 0xC4
octet_of Appletalk = 0xCA
octet_of AppletalkArp = 0xCB
octet_of ArpaIp = 0xCC
octet_of ArpaAddress = 0xCD
octet_of Flexnet = 0xCE
octet_of NetRom = 0xCF
octet_of None = 0xF0
octet_of Escape = 0xFF
octet_of (Unknown b) = b

-- the identifiers that have a name and one octet each
abbrev pub named : List ProtocolIdentifier
named =
    X25Plp ∷ CompressedTcpIp ∷ UncompressedTcpIp ∷ SegmentationFragment ∷ TexnetDatagram ∷ LinkQuality ∷ Appletalk
    ∷ AppletalkArp ∷ ArpaIp ∷ ArpaAddress ∷ Flexnet ∷ NetRom ∷ None ∷ Escape ∷ []

-- the one of a list that has this octet, or else `Unknown` with it
unfoldable pub among : List ProtocolIdentifier → ℕ → ProtocolIdentifier
among [] b = Unknown b
among (p ∷ ps) b = cond (eqb b (octet_of p)) p (among ps b)

-- the identifier of an octet: the class first, then the names
unfoldable pub pid_of : ℕ → ProtocolIdentifier
pid_of b = cond (layer3 b) (Layer3Impl b) (among named b)

-- whether an octet is one of a list's
unfoldable pub has_octet : List ProtocolIdentifier → ℕ → Bool
has_octet [] b = false
has_octet (p ∷ ps) b = eqb b (octet_of p) || has_octet ps b

-- a layer 3 identifier with an octet outside the class: no octet is read as one
abbrev pub outside_class : ProtocolIdentifier → Bool
outside_class (Layer3Impl b) = not (layer3 b)
outside_class X25Plp = false
outside_class CompressedTcpIp = false
outside_class UncompressedTcpIp = false
outside_class SegmentationFragment = false
outside_class TexnetDatagram = false
outside_class LinkQuality = false
outside_class Appletalk = false
outside_class AppletalkArp = false
outside_class ArpaIp = false
outside_class ArpaAddress = false
outside_class Flexnet = false
outside_class NetRom = false
outside_class None = false
outside_class Escape = false
outside_class (Unknown b) = false

-- plain: layer 3 only with an octet of the class, `Unknown` only with one of neither the class nor the named list
abbrev pub plain_pid : ProtocolIdentifier → Bool
plain_pid (Layer3Impl b) = ltb b 256 && layer3 b
plain_pid X25Plp = true
plain_pid CompressedTcpIp = true
plain_pid UncompressedTcpIp = true
plain_pid SegmentationFragment = true
plain_pid TexnetDatagram = true
plain_pid LinkQuality = true
plain_pid Appletalk = true
plain_pid AppletalkArp = true
plain_pid ArpaIp = true
plain_pid ArpaAddress = true
plain_pid Flexnet = true
plain_pid NetRom = true
plain_pid None = true
plain_pid Escape = true
plain_pid (Unknown b) = ltb b 256 && not (layer3 b) && not (has_octet named b)
