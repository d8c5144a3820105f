-- `outside_class` looks at the octet of a layer 3 identifier; no other identifier has one outside the class.
use Prim.Native.Nat.{ℕ}
use mathlib.Core.Path.{◌≡◌, refl, ap, sym, ◌∙◌}
use mathlib.Core.Bool.{false, not}
use Rattle.protocol.specs.Pid.{outside_class}
use Rattle.protocol.specs.declared.ProtocolIdentifier.{ProtocolIdentifier}
use Rattle.protocol.specs.declared.ProtocolIdentifier.TheVariants.{Layer3Impl, X25Plp, CompressedTcpIp, UncompressedTcpIp, SegmentationFragment, TexnetDatagram, LinkQuality, Appletalk, AppletalkArp, ArpaIp, ArpaAddress, Flexnet, NetRom, None, Escape, Unknown}
use Rattle.protocol.proofs.ProtocolIdentifier.outside_class.Goals as goal

-- an identifier of any other case
told-other : (p : ProtocolIdentifier) → ((b : ℕ) → p ≡ Layer3Impl b → ⊥) → outside_class p ≡ false
told-other (Layer3Impl b) h = absurd (h b refl)
told-other X25Plp h = refl
told-other CompressedTcpIp h = refl
told-other UncompressedTcpIp h = refl
told-other SegmentationFragment h = refl
told-other TexnetDatagram h = refl
told-other LinkQuality h = refl
told-other Appletalk h = refl
told-other AppletalkArp h = refl
told-other ArpaIp h = refl
told-other ArpaAddress h = refl
told-other Flexnet h = refl
told-other NetRom h = refl
told-other None h = refl
told-other Escape h = refl
told-other (Unknown b) h = refl

pub returns-in_default : goal.returns-in_default
returns-in_default c = sym (told-other c.args.self c.in_default.not-Layer3Impl)

pub returns : goal.returns
returns c = ap not c.is_layer3.ensures ∙ ap outside_class (sym c.in-Layer3Impl.is)
