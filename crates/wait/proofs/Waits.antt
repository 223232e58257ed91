-- Accepted waits: exactly which they are, that their end table passes the check with the entry's line, and that the owner is unharmed.
use Prim.Native.Nat.{ℕ, ◌+◌}
use native.Mathlib.Omega.{arith}
use mathlib.Core.Path.{◌≡◌, refl, sym, ap, ◌∙◌}
use mathlib.Core.Bool.{Bool, true, false, cond}
use mathlib.Core.List.{List, [], ◌∷◌, ◌++◌}
use lib.ListN.{length}
use Rattle.kinds.specs.declared.SlotNo.{SlotNo}
use Rattle.kinds.specs.declared.Txid.{Txid}
use Rattle.kinds.specs.declared.refusal.Refusal.{Refusal}
use Rattle.kinds.specs.declared.refusal.Refusal.TheVariants.{BadTrace, BadStep}
use Rattle.kinds.specs.Verdicts.{Verdict, Pass, Refuse}
use Rattle.kinds.proofs.Verdicts.{refuse_not_pass, passed_by, then_pass}
use Rattle.model.specs.declared.Table.{Table}
use Rattle.model.specs.Tables.{clock_of, line_of}
use Rattle.model.specs.Tests.{observation_test}
use Rattle.model.specs.Calls.{end, own, refusal}
use Rattle.model.specs.Check.{table_passes}
use Rattle.model.specs.Accepted.{Owns}
use Rattle.model.specs.Facts.{Good}
use Rattle.model.proofs.Tests.{owns, owner-passes}
use Rattle.model.proofs.Check.{passes-good, good-passes}
use Rattle.grammar.specs.Texts.{Read, Whole, Broken}
use Rattle.events.specs.Wait.{Header, Wait1, events_of}
use Rattle.events.specs.declared.Event.{Event}
use Rattle.wait_rules.specs.Owner.{Owner, Holds}
use Rattle.wait_rules.specs.Steps.{event_test, event_after}
use Rattle.wait.specs.Waits.{entry_test, holder_test, steps_from, ended, verdict_on, answered, on_text, wait_of}
use Rattle.wait_rules.proofs.Steps.{good_event, SlotStays, slot-stays, line_stays, pins_stay}

-- an event that is not the bad one, and the steps past it
pub went_on : (b : Bool) (v : Verdict) (r : Refusal) → cond b v (Refuse r) ≡ Pass → (b ≡ true) × (v ≡ Pass)
went_on true v r e = (refl, e)
went_on false v r e = absurd (refuse_not_pass r e)

-- steps that keep their rules leave a table that passes the check ..
good-ended : (n : ℕ) (owner : Owner) (t : Table) (step : ℕ) (es : List Event) → Good n t → steps_from n owner t step es ≡ Pass
    → Good n (ended t es)
unfolding steps_from ended
good-ended n owner t step [] g h = g
good-ended n owner t step (e ∷ es) g h =
    let (a, b) = went_on (event_test n t owner e) _ _ h in
    good-ended n owner (event_after t e) (step + 1) es (good_event n t g owner e a) b

-- .. the owner's slot as it was ..
pub stays-ended : (n : ℕ) (slot : SlotNo) (id : Txid) (t : Table) (step : ℕ) (es : List Event)
    → steps_from n (Holds slot id) t step es ≡ Pass → SlotStays t (ended t es) slot.0
unfolding steps_from ended
stays-ended n slot id t step [] h = record { txid_stays = refl; xmin_stays = refl }
stays-ended n slot id t step (e ∷ es) h =
    let (a, b) = went_on (event_test n t (Holds slot id) e) _ _ h in
    let first = slot-stays n t slot id e a in
    let rest = stays-ended n slot id (event_after t e) (step + 1) es b in
    record { txid_stays = rest.txid_stays ∙ first.txid_stays; xmin_stays = rest.xmin_stays ∙ first.xmin_stays }

-- .. and the line, whatever they are
pub line-ended : (t : Table) (es : List Event) → line_of (ended t es) ≡ line_of t
unfolding ended
line-ended t [] = refl
line-ended t (e ∷ es) = line-ended (event_after t e) es ∙ line_stays t e

-- .. and the pins
pub pins-ended : (t : Table) (es : List Event) → (ended t es).pins ≡ t.pins
unfolding ended
pins-ended t [] = refl
pins-ended t (e ∷ es) = pins-ended (event_after t e) es ∙ pins_stay t e

-- the first bad step is told: those before it keep their rules, it doesn't, and what follows doesn't matter
pub first_bad : (n : ℕ) (owner : Owner) (t : Table) (step : ℕ) (before : List Event) (e : Event) (later : List Event)
    → steps_from n owner t step before ≡ Pass → event_test n (ended t before) owner e ≡ false
    → steps_from n owner t step (before ++ e ∷ later) ≡ Refuse (BadStep (step + length before))
unfolding steps_from ended
first_bad n owner t step [] e later h bad = rw bad (ap (λ (k : ℕ). Refuse (BadStep k)) (omega arith))
first_bad n owner t step (d ∷ before) e later h bad =
    let (a, b) = went_on (event_test n t owner d) _ _ h in
    let rest = first_bad n owner (event_after t d) (step + 1) before e later b bad in
    rw a (rest ∙ ap (λ (k : ℕ). Refuse (BadStep k)) (omega arith))

-- what an accepted wait is
pub record Heard (n : ℕ) (t : Table) (owner : Owner) (s : List ℕ) : Type 0 where
  pub events : List Event
  pub text : events_of s ≡ Whole Wait1 events
  pub entry : table_passes n t ≡ true
  pub holder : holder_test n t owner ≡ Pass
  pub steps : steps_from n owner t 1 events ≡ Pass

module _ (n : ℕ) (t : Table) (owner : Owner) (s : List ℕ) where
  -- it is answered with the table at the end ..
  pub accepts : (w : Heard n t owner s) → wait_of n t owner s ≡ record { table = ended t w.events; verdict = Pass }
  unfolding wait_of verdict_on
  accepts w = rw (w.text, w.entry, w.holder, w.steps)

  -- .. and nothing else is accepted
  pub heard : (wait_of n t owner s).verdict ≡ Pass → Heard n t owner s
  unfolding wait_of verdict_on
  heard h = go (events_of s) refl h
    where
      answered-pass : (v : Verdict) (es : List Event) → (answered v t es).verdict ≡ Pass → v ≡ Pass
      answered-pass Pass es e = refl
      answered-pass (Refuse r) es e = absurd (refuse_not_pass r e)

      go : (x : Read Header Event) → events_of s ≡ x → (on_text n t owner x).verdict ≡ Pass → Heard n t owner s
      go (Broken k) q e = absurd (refuse_not_pass (BadTrace k) e)
      go (Whole Wait1 es) q e =
          let (a, b) = then_pass (entry_test n t) _ (answered-pass _ es e) in
          let (c, d) = then_pass (holder_test n t owner) _ b in
          record { events = es; text = q; entry = passed_by (table_passes n t) _ a; holder = c; steps = d }

  -- beside a refusal stands the entry table
  pub refused_entry : (r : Refusal) → (wait_of n t owner s).verdict ≡ Refuse r → (wait_of n t owner s).table ≡ t
  unfolding wait_of
  refused_entry r h = go (events_of s) h
    where
      on : (v : Verdict) (es : List Event) → (answered v t es).verdict ≡ Refuse r → (answered v t es).table ≡ t
      on Pass es e = absurd (refuse_not_pass r (sym e))
      on (Refuse q) es e = refl

      go : (x : Read Header Event) → (on_text n t owner x).verdict ≡ Refuse r → (on_text n t owner x).table ≡ t
      go (Broken k) e = refl
      go (Whole h es) e = on (verdict_on n t owner es) es e

  -- the table at the end of an accepted wait passes the table check
  pub end-passes : (wait_of n t owner s).verdict ≡ Pass → table_passes n (wait_of n t owner s).table ≡ true
  end-passes h =
      let w = heard h in
      rw (accepts w) (good-passes n (ended t w.events) (good-ended n owner t 1 w.events (passes-good n t w.entry) w.steps))

-- after an accepted wait of an owner its slot is as it was, its end isn't refused, and its snapshot isn't for want of the slot:
-- what is left of its tests is the one of the clock and the sample
pub record Unharmed (n : ℕ) (t u : Table) (slot : SlotNo) (id : Txid) : Type 0 where
  pub stays : SlotStays t u slot.0
  pub end_accepted : refusal n u (end slot id) ≡ Pass
  pub own_tested : (clock sample : ℕ) → refusal n u (own slot id clock sample) ≡ observation_test (clock_of u) clock sample

unharmed : (n : ℕ) (t u : Table) (slot : SlotNo) (id : Txid) → Owns n t slot id → SlotStays t u slot.0 → Unharmed n t u slot id
unfolding refusal
unharmed n t u slot id o k =
    let holds : Owns n u slot id = record {
      inside = o.inside;
      registered = record { not_zero = o.registered.not_zero; holds = k.txid_stays ∙ o.registered.holds };
    } in
    let passes = owner-passes n u slot id holds in
    record { stays = k; end_accepted = passes; own_tested = λ clock sample. rw passes }

pub owner_unharmed : (n : ℕ) (t : Table) (slot : SlotNo) (id : Txid) (s : List ℕ) → (wait_of n t (Holds slot id) s).verdict ≡ Pass
    → Unharmed n t (wait_of n t (Holds slot id) s).table slot id
owner_unharmed n t slot id s h =
    let w = heard n t (Holds slot id) s h in
    rw (accepts n t (Holds slot id) s w)
    (unharmed n t (ended t w.events) slot id (owns n t slot id w.holder) (stays-ended n slot id t 1 w.events w.steps))
