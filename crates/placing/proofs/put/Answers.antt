-- 22 by the address, then 24 by the room; else the seven octets are the group.
use mathlib.Core.Path.{◌≡◌, refl, sym, ◌∙◌}
use Rattle.octets.specs.Splice.{splice}
use Rattle.octets.proofs.Splice.{splice_none}
use Rattle.group.proofs.Laws.{group_is}
use Rattle.placing.specs.Put.{put_answer, put_octets}
use Rattle.placing.proofs.put.Goals as goal
use Rattle.placing.proofs.put.Goals.{After-store}

-- what is stored is the group
stored : (c : After-store) →
    let a = c.args in
    c.store.new.out ≡ splice a.out.now a.at (put_octets a.address a.high_bit a.final_in_address)
unfolding put_octets
stored c =
    c.store.ensures.out_after ∙ rw (sym c.is_encodable.ensures ∙ c.if-not-is_encodable.false, group_is, c.ssid_octet-last.ensures) refl

pub returns-then-not-is_encodable : goal.returns-then-not-is_encodable
unfolding put_answer put_octets
returns-then-not-is_encodable c =
    let e = sym c.is_encodable.ensures ∙ c.if-not-is_encodable.true in
    record { value = rw e; out_after = sym (rw e (splice_none _ _)) }

pub returns : goal.returns
unfolding put_answer
returns c = record { value = rw (sym c.is_encodable.ensures ∙ c.if-not-is_encodable.false, sym c.store.ensures.value ∙ c.if-not-store.false); out_after = stored (goal.at.returns c).After-store }

pub returns-then-not-store : goal.returns-then-not-store
unfolding put_answer
returns-then-not-store c = record { value = rw (sym c.is_encodable.ensures ∙ c.if-not-is_encodable.false, sym c.store.ensures.value ∙ c.if-not-store.true); out_after = stored (goal.at.returns-then-not-store c).After-store }
