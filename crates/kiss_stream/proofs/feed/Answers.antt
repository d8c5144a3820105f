use Rattle.std.proofs.Common.{◌≡◌, ℕ, List, ◌∷◌, subst, refl, ap, sym}
use Rattle.kiss_state.specs.State.{stream_of}
use Rattle.kiss_stream.specs.Feed.{Called, feed_of, fed_of}
use Rattle.kiss_stream.specs.Steps.{Reaches}
use Rattle.kiss_stream.proofs.Laws.{reaches_itself, reaches_on, ends_at, gives_at, goes_at}
use Rattle.kiss_stream.proofs.feed.Goals as goal
use Rattle.kiss_stream.proofs.feed.Goals.{After-skip-left, In-Some}

answered : {w r : Called} → w ≡ r → (fed_of w ≡ fed_of r) × (w.stream.octets ≡ r.stream.octets)
answered e = (ap fed_of e, ap (λ (x : Called). x.stream.octets) e)

-- the whole call is the call from behind the runs on
behind : (c : After-skip-left) → Reaches (stream_of c.args.octets.now c.settle-h.result) c.args.piece.now (stream_of c.fill-filled.new.octets c.fill-filled.result.head) c.skip-left.result.now
behind c =
    let f = c.fill-filled in
    let t = stream_of f.new.octets f.result.head in
    reaches_on _ _ t f.result.rest.now t _
    (reaches_on _ _ _ c.loop-octet.rest.now t f.result.rest.now c.loop-octet.invariant f.ensures) (c.skip-left.ensures t refl)

pub loop-octet-init : goal.loop-octet-init
loop-octet-init c = reaches_itself _ _

pub returns-in_default : goal.returns-in_default
unfolding feed_of
returns-in_default c =
    let w = ends_at _ _ _ _ (behind (goal.at.returns-in_default c).After-skip-left) c.in_default.ensures.cases in
    rw c.no_packet.ensures (answered (sym (rw c.settle-h.ensures at w)))

-- with what is left as the next octet and the rest
next : (c : In-Some) → Reaches (stream_of c.args.octets.now c.settle-h.result) c.args.piece.now (stream_of c.fill-filled.new.octets c.fill-filled.result.head) (c.in-Some.octet.now ∷ c.in-Some.behind.now)
next c =
    let P : List ℕ → Type 0 = λ q. Reaches (stream_of c.args.octets.now c.settle-h.result) c.args.piece.now (stream_of c.fill-filled.new.octets c.fill-filled.result.head) q in
    subst P c.in-Some.ensures.cases.0 (behind (goal.at.In-Some c).After-skip-left)

pub returns-then-m : goal.returns-then-m
unfolding feed_of
returns-then-m c =
    let s = c.step-m in
    let w = gives_at _ _ _ _ _ _ s.result s.new.octets (next (goal.at.returns-then-m c).In-Some) s.ensures.value s.ensures.octets_after c.if-m.true in
    rw c.packet_of.ensures (answered (sym (rw c.settle-h.ensures at w)))

pub loop-octet-preserved : goal.loop-octet-preserved
loop-octet-preserved c =
    let s = c.step-m in
    goes_at _ _ _ _ _ _ s.result s.new.octets (next (goal.at.loop-octet-preserved c).In-Some) s.ensures.value s.ensures.octets_after c.if-m.false
