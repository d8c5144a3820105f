-- The canonical check is exact, and an accepted input spelled again is canonical: the facts that the demands state.
use Prim.Native.Nat.{ℕ, ◌+◌, ◌*◌, ◌≤◌, ◌<◌}
use mathlib.Core.Path.{◌≡◌, refl, ap, sym, subst, ◌∙◌}
use mathlib.Core.Bool.{true, false}
use mathlib.Core.List.{List}
use lib.ListN.{length, drop}
use Rattle.octets.specs.Octet.{Octets}
use Rattle.octets.proofs.Choice.{by, both, equal}
use Rattle.octets.proofs.Same.{same_refl, same_eq}
use Rattle.content.specs.Spell.{has_info}
use Rattle.control.specs.declared.Mode.{Mode}
use Rattle.decode.specs.Answer.{is_accepted}
use Rattle.decode.specs.Read.{end_of, decode, info_in}
use Rattle.frame.specs.Spell.{with_mark, spell, Plain}
use Rattle.frame.specs.declared.Ax25Frame.{Ax25Frame}
use Rattle.grammar.specs.Stations.{reserved_at}
use Rattle.decode.proofs.Accepts.{accepts}
use Rattle.grammar.proofs.Back.{info-spell, frame-spell}
use Rattle.grammar.proofs.Plain.{read}
use Rattle.grammar.proofs.Respell.{mark-spell, use-spell, use_mark, accepted-spell, content-spell}
use Rattle.grammar.proofs.Direct.{direct, direct_spelled, direct-again}
use Rattle.grammar.proofs.Stations.{reserved-again}
use Rattle.reason.specs.Reason.{is_none, reason_of}
use Rattle.reason.proofs.Laws.{none_is}
use Rattle.spelling.specs.Canonical.{again, canonical}

-- a canonical input is accepted, and its frame, which is plain, spells it
pub canonical-plain : (mode : Mode) (s : List ℕ) → Octets s → canonical mode s ≡ true
    → (is_accepted (decode mode s).answer ≡ true) × Plain mode (decode mode s).frame (info_in s (decode mode s)) × (spell mode (decode mode s).frame (info_in s (decode mode s)) ≡ s)
unfolding canonical again
canonical-plain mode s o e =
    let h = both (is_accepted (decode mode s).answer) _ e in
    let i : List ℕ = info_in s (decode mode s) in
    let r = read mode s o h.0 in
    let spells : spell mode (decode mode s).frame i ≡ s = same_eq _ s h.1 in
    -- the frame that was read of it is the one with a mark, so that it has one
    let whole : (decode mode s).frame ≡ with_mark (decode mode s).frame =
    ap (λ (t : List ℕ). (decode mode t).frame) (sym (mark-spell mode (decode mode s).frame i ∙ spells)) ∙ frame-spell mode _ i r.plain ∙ use_mark _ r.kept in
    (h.0, subst (λ (f : Ax25Frame). Plain mode f i) (sym whole) r.plain, spells)

-- what a plain frame spells is re-encoded as itself
again-spell : (mode : Mode) (f : Ax25Frame) (i : List ℕ) → Plain mode f i → again mode (spell mode f i) ≡ spell mode f i
unfolding again
again-spell mode f i p = rw (info-spell mode f i p, frame-spell mode f i p) (use-spell mode f i p.count)

pub spell-canonical : (mode : Mode) (f : Ax25Frame) (i : List ℕ) → Plain mode f i → canonical mode (spell mode f i) ≡ true
unfolding canonical
spell-canonical mode f i p = rw (again-spell mode f i p, same_refl, accepted-spell mode f i p)

pub refused-not-canonical : (mode : Mode) (s : List ℕ) → is_accepted (decode mode s).answer ≡ false → canonical mode s ≡ false
unfolding canonical
refused-not-canonical mode s e = rw e

module _ (mode : Mode) (s : List ℕ) (o : Octets s) where
  again-canonical : is_accepted (decode mode s).answer ≡ true → spell mode (decode mode s).frame (info_in s (decode mode s)) ≡ s → canonical mode s ≡ true
  unfolding canonical again
  again-canonical a e = rw (a, e, same_refl s)

  -- the direct look at an accepted input is the canonical check
  pub canonical_direct : is_accepted (decode mode s).answer ≡ true → canonical mode s ≡ direct mode s
  canonical_direct a =
      equal (canonical mode s) _
      (λ e. let w = canonical-plain mode s o e in rw w.2 at (direct_spelled mode _ _ w.1))
      (λ e. again-canonical a (direct-again mode s o (accepts mode s a) e))

  -- no reason is given exactly of canonical input
  pub canonical_none : canonical mode s ≡ is_none (reason_of mode s)
  canonical_none =
      by (is_accepted (decode mode s).answer)
      (λ e. canonical_direct e ∙ sym (none_is mode s ∙ rw e refl))
      (λ e. refused-not-canonical mode s e ∙ sym (none_is mode s ∙ rw e refl))

  -- of a kind with info re-encoding keeps every octet after the address field
  pub again-content : is_accepted (decode mode s).answer ≡ true → has_info (decode mode s).frame.content ≡ true
      → drop (14 + 7 * (decode mode s).frame.route_count) (again mode s) ≡ drop (end_of s + 1) s
  unfolding again
  again-content a e = content-spell mode s o a e

  -- and of every kind the reserved bits of every group
  pub again_reserved : is_accepted (decode mode s).answer ≡ true
      → (j : ℕ) → j < (decode mode s).frame.route_count + 2 → reserved_at (again mode s) j ≡ reserved_at s j
  unfolding again
  again_reserved a j h = reserved-again mode s o a j h

-- an accepted input re-encoded: accepted, canonical, no longer, the same frame with a mark, the same info
pub again_facts : (mode : Mode) (s : List ℕ) → Octets s → is_accepted (decode mode s).answer ≡ true
    → (is_accepted (decode mode (again mode s)).answer ≡ true) × (canonical mode (again mode s) ≡ true) × (length (again mode s) ≤ length s)
    × ((decode mode (again mode s)).frame ≡ with_mark (decode mode s).frame) × (info_in (again mode s) (decode mode (again mode s)) ≡ info_in s (decode mode s))
unfolding again
again_facts mode s o e =
    let r = read mode s o e in
    let i = info_in s (decode mode s) in
    rw (← mark-spell mode (decode mode s).frame i)
    (accepted-spell mode _ i r.plain, spell-canonical mode _ i r.plain, r.fits, frame-spell mode _ i r.plain ∙ use_mark _ r.kept, info-spell mode _ i r.plain)
