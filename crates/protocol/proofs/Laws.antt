-- What reading an octet and writing it back gives, and the other way round. Upper crates rest on these and open no identifier.
use Prim.Native.Nat.{ℕ, ◌<◌}
use mathlib.Core.Path.{◌≡◌, refl}
use mathlib.Core.Bool.{true, false, not, ◌&&◌}
use mathlib.Core.List.{List, [], ◌∷◌}
use native.Mathlib.Omega.{arith}
use borrow.Author.Tests.{ltb-true, not-true}
use lib.Dec.{eqb, ltb}
use Rattle.octets.proofs.Choice.{so, both, and_false, neither}
use Rattle.octets.proofs.Octet.{octet-test, octet-same}
use Rattle.protocol.specs.Pid.{layer3, octet_of, named, among, pid_of, has_octet, outside_class, plain_pid}
use Rattle.protocol.specs.declared.ProtocolIdentifier.{ProtocolIdentifier}
use Rattle.protocol.specs.declared.ProtocolIdentifier.TheVariants.{Layer3Impl, X25Plp, CompressedTcpIp, UncompressedTcpIp, SegmentationFragment, TexnetDatagram, LinkQuality, Appletalk, AppletalkArp, ArpaIp, ArpaAddress, Flexnet, NetRom, None, Escape, Unknown}

-- an octet that is read and written back is itself
pub octet_pid : (b : ℕ) → b < 256 → octet_of (pid_of b) ≡ b
unfolding pid_of among
octet_pid b h = octet-same (λ n. octet_of (pid_of n)) (λ n. n) tt b h

-- every octet of the layer 3 class is read as an identifier that carries it
pub class_read : (b : ℕ) → layer3 b ≡ true → pid_of b ≡ Layer3Impl b
unfolding pid_of
class_read b e = rw e refl

-- an unknown identifier with such an octet is written too, but is not plain
pub class_unknown : (b : ℕ) → layer3 b ≡ true → (outside_class (Unknown b) ≡ false) × (plain_pid (Unknown b) ≡ false)
class_unknown b e = (refl, rw (e, and_false (ltb b 256)) refl)

-- what is read is plain
pub pid-plain : (b : ℕ) → b < 256 → plain_pid (pid_of b) ≡ true
unfolding pid_of among has_octet
pid-plain b h = so (plain_pid (pid_of b)) (octet-test (λ n. plain_pid (pid_of n)) tt b h)

-- an octet that none of a list has is unknown to it
among_none : (ps : List ProtocolIdentifier) (b : ℕ) → has_octet ps b ≡ false → among ps b ≡ Unknown b
unfolding among has_octet
among_none [] b e = refl
among_none (p ∷ ps) b e =
    let n = neither (eqb b (octet_of p)) (has_octet ps b) e in
    rw n.0 (among_none ps b n.1)

-- a plain identifier that is written and read back is itself
pub pid_octet_lem : (p : ProtocolIdentifier) → plain_pid p ≡ true → pid_of (octet_of p) ≡ p
unfolding pid_of among
pid_octet_lem (Layer3Impl b) t = rw (both (ltb b 256) (layer3 b) t).1 refl
pid_octet_lem X25Plp t = refl
pid_octet_lem CompressedTcpIp t = refl
pid_octet_lem UncompressedTcpIp t = refl
pid_octet_lem SegmentationFragment t = refl
pid_octet_lem TexnetDatagram t = refl
pid_octet_lem LinkQuality t = refl
pid_octet_lem Appletalk t = refl
pid_octet_lem AppletalkArp t = refl
pid_octet_lem ArpaIp t = refl
pid_octet_lem ArpaAddress t = refl
pid_octet_lem Flexnet t = refl
pid_octet_lem NetRom t = refl
pid_octet_lem None t = refl
pid_octet_lem Escape t = refl
pid_octet_lem (Unknown b) t =
    let h = both (ltb b 256 && not (layer3 b)) (not (has_octet named b)) t in
    let l : layer3 b ≡ false = not-true (layer3 b) (both (ltb b 256) (not (layer3 b)) h.0).1 in
    rw l (among_none named b (not-true (has_octet named b) h.1))

-- what is written of a plain identifier is an octet
pub octet_below : (p : ProtocolIdentifier) → plain_pid p ≡ true → octet_of p < 256
octet_below (Layer3Impl b) t = ltb-true b 256 (both (ltb b 256) (layer3 b) t).0
octet_below X25Plp t = omega arith
octet_below CompressedTcpIp t = omega arith
octet_below UncompressedTcpIp t = omega arith
octet_below SegmentationFragment t = omega arith
octet_below TexnetDatagram t = omega arith
octet_below LinkQuality t = omega arith
octet_below Appletalk t = omega arith
octet_below AppletalkArp t = omega arith
octet_below ArpaIp t = omega arith
octet_below ArpaAddress t = omega arith
octet_below Flexnet t = omega arith
octet_below NetRom t = omega arith
octet_below None t = omega arith
octet_below Escape t = omega arith
octet_below (Unknown b) t =
    ltb-true b 256 (both (ltb b 256) (not (layer3 b)) (both (ltb b 256 && not (layer3 b)) _ t).0).0

-- a plain layer 3 identifier has an octet of the class
pub plain_inside : (p : ProtocolIdentifier) → plain_pid p ≡ true → outside_class p ≡ false
plain_inside (Layer3Impl b) t = rw (both (ltb b 256) (layer3 b) t).1 refl
plain_inside X25Plp t = refl
plain_inside CompressedTcpIp t = refl
plain_inside UncompressedTcpIp t = refl
plain_inside SegmentationFragment t = refl
plain_inside TexnetDatagram t = refl
plain_inside LinkQuality t = refl
plain_inside Appletalk t = refl
plain_inside AppletalkArp t = refl
plain_inside ArpaIp t = refl
plain_inside ArpaAddress t = refl
plain_inside Flexnet t = refl
plain_inside NetRom t = refl
plain_inside None t = refl
plain_inside Escape t = refl
plain_inside (Unknown b) t = refl
