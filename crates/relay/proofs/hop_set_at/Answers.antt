use Prim.Native.Nat.{ℕ, ◌+◌, ◌-◌, ◌*◌, ◌/◌, ◌≤◌, ◌<◌}
use mathlib.Core.Path.{◌≡◌, refl, sym, ◌∙◌}
use mathlib.Core.List.{List}
use native.Mathlib.Omega.{arith}
use lib.ListN.{get_or, drop}
use Rattle.decode.specs.Read.{route_at}
use Rattle.hops.specs.Hops.{marks, set_of}
use Rattle.hops.proofs.Laws.{set_turn, set_past}
use Rattle.relay.proofs.Laws.{mark_read}
use Rattle.relay.proofs.hop_set_at.Goals as goal

-- one turn: the set with the mark that was read, which fits an octet
turn : (s : List ℕ) (at n i set : ℕ) → 0 < i → n ≤ 8 → i ≤ n → set ≡ set_of (drop i (marks (route_at s at n) n))
    → get_or s (at + 7 * (i - 1) + 6) 0 < 256
    → (set * 2 + get_or s (at + 7 * (i - 1) + 6) 0 / 128 ≡ set_of (drop (i - 1) (marks (route_at s at n) n)))
    × (set * 2 + get_or s (at + 7 * (i - 1) + 6) 0 / 128 < 256)
turn s at n i set some few inside inv fits =
    rw (mark_read s at n (i - 1) (omega arith) few fits) (set_turn (route_at s at n) n i set some (omega arith) inv)

pub loop-i-init : goal.loop-i-init
loop-i-init c = let a = c.args in sym (set_past (route_at a.bytes.now a.at a.n) a.n)

pub overflow_mul-set : goal.overflow_mul-set
overflow_mul-set c =
    let a = c.args in
    omega (arith, (turn a.bytes.now a.at a.n _ _ c.loop-i-test.true c.requires.0 (omega arith) c.loop-i.invariant (c.type_inv.bytes _).fits).1)

pub overflow_add-set : goal.overflow_add-set
overflow_add-set c =
    let a = c.args in
    omega (arith, (turn a.bytes.now a.at a.n _ _ c.loop-i-test.true c.requires.0 (omega arith) c.loop-i.invariant (c.type_inv.bytes _).fits).1)

pub loop-i-preserved : goal.loop-i-preserved
loop-i-preserved c =
    let a = c.args in
    (turn a.bytes.now a.at a.n _ _ c.loop-i-test.true c.requires.0 (omega arith) c.loop-i.invariant (c.type_inv.bytes _).fits).0

pub returns : goal.returns
returns c =
    let e : c.loop-i.i ≡ 0 = omega arith in
    c.loop-i.invariant ∙ rw e refl
