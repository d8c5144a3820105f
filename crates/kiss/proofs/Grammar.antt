-- The grammar's own equations, which crates above cite because they do not open its definitions; and the numbers of writing.
use Prim.Native.Nat.{ℕ, ◌+◌}
use mathlib.Core.Path.{◌≡◌, refl}
use mathlib.Core.Bool.{cond}
use mathlib.Core.List.{List, [], ◌∷◌, ◌++◌}
use lib.Dec.{ltb}
use lib.ListN.{length}
use Rattle.octets.specs.Outcome.{number_by}
use Rattle.octets.specs.Count.{count}
use Rattle.octets.proofs.Choice.{by}
use Rattle.escapes.specs.Escape.{fend, escape_of, escaped, special}
use Rattle.kiss.specs.Packet.{type_of, last_port, packet}
use Rattle.kiss.specs.Write.{number_of, written}
use Rattle.kiss.proofs.Laws.{packet-length}

pub escaped_none : escaped [] ≡ []
unfolding escaped
escaped_none = refl

pub escaped-cons : (b : ℕ) (s : List ℕ) → escaped (b ∷ s) ≡ escape_of b ++ escaped s
unfolding escaped
escaped-cons b s = refl

pub packet_is : (port : ℕ) (s : List ℕ) → packet port s ≡ fend ∷ (type_of port ∷ (escaped s ++ (fend ∷ [])))
unfolding packet
packet_is port s = refl

-- 56, then 24
pub write-rows : (port : ℕ) (s : List ℕ) (room : ℕ)
    → number_by number_of (written port s room) ≡ cond (ltb last_port port) 56 (cond (ltb room (3 + length s + count special s)) 24 0)
unfolding written
write-rows port s room =
    rw (packet-length port s)
    (by (ltb last_port port)
    (λ e. rw e refl)
    (λ e. rw e (by (ltb room (3 + length s + count special s)) (λ f. rw f refl) (λ f. rw f refl))))
