-- A wait in which others made calls of ours, none of them on the owner's slot, is told by events that keep their rules, and the check
-- answers the table that the calls reached, but for line and pins, which stay the entry's. Call by call on that table: a begin
-- registers, since the lowest empty slot is not the owner's; a vacuum and a pinned snapshot observe; a release tells nothing, nor
-- does a refused call, but for refusal 1, which reserves.
use Prim.Native.Nat.{ℕ, ◌+◌}
use mathlib.Core.Path.{◌≡◌, refl, sym, ap, ◌∙◌}
use mathlib.Core.Bool.{true, false, false≢true}
use mathlib.Core.List.{List, [], ◌∷◌, ◌++◌}
use borrow.Author.Tests.{ne_eqb}
use Rattle.kinds.specs.declared.PinNo.{PinNo}
use Rattle.kinds.specs.declared.refusal.Refusal.{Refusal}
use Rattle.kinds.specs.Verdicts.{Verdict, Pass, Refuse}
use Rattle.kinds.specs.Refusals.{consumed}
use Rattle.model.specs.declared.Table.{Table}
use Rattle.model.specs.Tally.{lowest_empty}
use Rattle.model.specs.Tables.{txid_at, clock_of, line_of}
use Rattle.model.specs.Changes.{applied}
use Rattle.model.specs.Check.{table_passes}
use Rattle.model.specs.Calls.{Call, begin, end, snap, own, oldest, vacuum, stamp, finish, pin, unpin, refusal}
use Rattle.model.specs.Calls.{change_accepted, change_by, spent, change_of, after}
use Rattle.model.specs.History.{run, Accepts}
use Rattle.model.proofs.Tally.{lowest_empty_lem}
use Rattle.model.proofs.Tests.{owns, owner-passes, observation-passes}
use Rattle.model.proofs.Accepted.{accepted_acceptable}
use Rattle.model.proofs.Refused.{Declined, stays, spends, declined}
use Rattle.upstream.specs.States.{pinning}
use Rattle.upstream.proofs.Yes.{beside}
use Rattle.upstream.proofs.Always.{refusal_unseen, spent_unseen}
use Rattle.grammar.specs.Texts.{Whole}
use Rattle.events.specs.Wait.{Wait1, events_of}
use Rattle.events.specs.declared.Event.{Event}
use Rattle.wait_rules.specs.Owner.{Owner, Nobody, HeldBy}
use Rattle.wait_rules.specs.Steps.{not_owned, rule_of, event_test, event_after, event_change, change_by as changeByEvent}
use Rattle.wait.specs.Waits.{holder_test, steps_from, ended, wait_of}
use Rattle.wait.proofs.Waits.{went_on, stays-ended, line-ended, pins-ended, accepts}
use Rattle.wait.proofs.Told.{Tells, begin-told, full-told, end-told, own-told, stamp-told, finish-told, snap-told, oldest-told}
use Rattle.wait.proofs.Told.{observes_clock}
use Rattle.interference.specs.Meanwhile.{Elsewhere, Meanwhile, nothing, then}
use Rattle.interference.proofs.Others.{vacuum-observed}

-- the slot that a begin enters is empty, so it is not the owner's
owner_elsewhere : (n : ℕ) (owner : Owner) (t : Table) → holder_test n t owner ≡ Pass → not_owned owner (lowest_empty t.txids) ≡ true
owner_elsewhere n Nobody t h = refl
owner_elsewhere n (HeldBy mine) t h =
    let o = owns n t mine.slot mine.id h in
    rw (ne_eqb (lowest_empty t.txids) mine.slot.0
    (λ e. o.registered.not_zero (sym o.registered.holds ∙ ap (λ (i : ℕ). txid_at t i) (sym e) ∙ lowest_empty_lem t.txids)))

-- some events tell of the call, but for line and pins
data Tellable (n : ℕ) (owner : Owner) (t : Table) (c : Call) : Type 0 where
  by : (es : List Event) → ((step : ℕ) → steps_from n owner t step es ≡ Pass) → ended t es ≡ beside t.pins (line_of t) (after n t c)
      → Tellable n owner t c

module _ (n : ℕ) (owner : Owner) (t : Table) (h : holder_test n t owner ≡ Pass) where
  -- events that leave what the call leaves: no event moves the line or a pin, so the call doesn't
  told : (c : Call) (es : List Event) → Tells n owner t c es → Tellable n owner t c
  told c es w =
      by es w.keep
      (w.leave
      ∙ ap (λ (l : ℕ). beside (after n t c).pins l (after n t c)) (ap line_of (sym w.leave) ∙ line-ended t es)
      ∙ ap (λ (pins : List ℕ). beside pins (line_of t) (after n t c)) (ap (λ (u : Table). u.pins) (sym w.leave) ∙ pins-ended t es))

  vacuum-told : (clock sample : ℕ) → Accepts n t (vacuum clock sample) → Tellable n owner t (vacuum clock sample)
  unfolding steps_from event_test rule_of
  vacuum-told clock sample a =
      let o = accepted_acceptable n t (vacuum clock sample) a in
      by (observes_clock clock sample ∷ []) (λ step. rw (observation-passes (clock_of t) clock sample o))
      (vacuum-observed n t clock sample a)

  -- an observe tells of a pinned snapshot, and nothing of a release
  pinned-told : (clock sample : ℕ) → Accepts n t (pin clock sample) → Tellable n owner t (pin clock sample)
  unfolding steps_from event_test rule_of ended event_change changeByEvent after change_of change_accepted
  pinned-told clock sample a =
      let o = (accepted_acceptable n t (pin clock sample) a).0 in
      by (observes_clock clock sample ∷ []) (λ step. rw (observation-passes (clock_of t) clock sample o)) (rw a)

  released-told : (k : PinNo) → Accepts n t (unpin k) → Tellable n owner t (unpin k)
  unfolding steps_from ended after change_of change_accepted
  released-told k a = by [] (λ step. refl) (rw a)

  accepted-told : (c : Call) → Accepts n t c → Elsewhere owner c → Tellable n owner t c
  accepted-told (begin number) a e = told _ _ (begin-told n owner t number a (owner_elsewhere n owner t h))
  accepted-told (end slot id) a e = told _ _ (end-told n owner t slot id a e)
  accepted-told (snap clock sample) a e = told _ _ (snap-told n owner t clock sample a)
  accepted-told (own slot id clock sample) a e = told _ _ (own-told n owner t slot id clock sample a e)
  accepted-told (oldest clock sample) a e = told _ _ (oldest-told n owner t clock sample a)
  accepted-told (vacuum clock sample) a e = vacuum-told clock sample a
  accepted-told (stamp number) a e = told _ _ (stamp-told n owner t number a)
  accepted-told (finish slot id number) a e = told _ _ (finish-told n owner t slot id number a e)
  accepted-told (pin clock sample) a e = pinned-told clock sample a
  accepted-told (unpin k) a e = released-told k a

  refused-told : (c : Call) (r : Refusal) → refusal n t c ≡ Refuse r → Tellable n owner t c
  unfolding steps_from ended after change_of spent
  refused-told c r e = go (declined n t c r e)
    where
      go : Declined n t c r → Tellable n owner t c
      go (stays p) = by [] (λ step. refl) (rw (e, p))
      go (spends number p q x y) = rw p (told (begin number) _ (full-told n owner t number (rw (p, q) at e)))

  call-told : (c : Call) → (Accepts n t c → Elsewhere owner c) → Tellable n owner t c
  call-told c f = go (refusal n t c) refl
    where
      go : (v : Verdict) → refusal n t c ≡ v → Tellable n owner t c
      go Pass e = accepted-told c e (f e)
      go (Refuse r) e = refused-told c r e

-- but for line and pins a call leaves the same, whatever they were, where it reads no pin
module _ (n : ℕ) (pins : List ℕ) (line : ℕ) (t : Table) where
  abbrev seen : Table
  seen = beside pins line t

  changed-line : (v : Verdict) (c : Call)
      → beside pins line (applied seen (change_by v seen c)) ≡ beside pins line (applied t (change_by v t c))
  unfolding change_accepted
  changed-line Pass (begin number) = refl
  changed-line Pass (end slot id) = refl
  changed-line Pass (snap clock sample) = refl
  changed-line Pass (own slot id clock sample) = refl
  changed-line Pass (oldest clock sample) = refl
  changed-line Pass (vacuum clock sample) = refl
  changed-line Pass (stamp number) = refl
  changed-line Pass (finish slot id number) = refl
  changed-line Pass (pin clock sample) = refl
  changed-line Pass (unpin k) = refl
  changed-line (Refuse r) c = rw (spent_unseen (consumed r) line t.counters)

  after_line : (c : Call) → pinning c ≡ false → beside pins line (after n seen c) ≡ beside pins line (after n t c)
  unfolding after change_of
  after_line c e = rw (refusal_unseen n pins line t c e) (changed-line (refusal n t c) c)

  -- one that the table with its own pins refuses leaves the same as well
  after-refused : (c : Call) (r : Refusal) → pinning c ≡ true → refusal n t c ≡ Refuse r → seen ≡ beside pins line (after n t c)
  unfolding after change_of spent
  after-refused c r k e = go (declined n t c r e)
    where
      go : Declined n t c r → seen ≡ beside pins line (after n t c)
      go (stays p) = rw (e, p)
      go (spends number p q h f) = absurd (false≢true (sym (rw p) ∙ k))

-- events after events: each part keeps its rules
steps_join : (n : ℕ) (owner : Owner) (t : Table) (step : ℕ) (es later : List Event) → steps_from n owner t step es ≡ Pass
    → ((k : ℕ) → steps_from n owner (ended t es) k later ≡ Pass) → steps_from n owner t step (es ++ later) ≡ Pass
unfolding steps_from ended
steps_join n owner t step [] later h f = f step
steps_join n owner t step (e ∷ es) later h f =
    let (a, b) = went_on (event_test n t owner e) _ _ h in
    rw a (steps_join n owner (event_after t e) (step + 1) es later b f)

ended_join : (t : Table) (es later : List Event) → ended t (es ++ later) ≡ ended (ended t es) later
unfolding ended
ended_join t [] later = refl
ended_join t (e ∷ es) later = ended_join (event_after t e) es later

-- the owner still holds its slot
holds_on : (n : ℕ) (owner : Owner) (t : Table) (es : List Event) → holder_test n t owner ≡ Pass → steps_from n owner t 1 es ≡ Pass
    → holder_test n (ended t es) owner ≡ Pass
holds_on n Nobody t es h k = refl
holds_on n (HeldBy mine) t es h k =
    let o = owns n t mine.slot mine.id h in
    let same = stays-ended n mine.slot mine.id t 1 es k in
    owner-passes n (ended t es) mine.slot mine.id
    (record {
      inside = o.inside;
      registered = record { not_zero = o.registered.not_zero; holds = same.txid_stays ∙ o.registered.holds };
    })

-- events that tell of the calls: they keep their rules, from whatever step, and leave the table that the calls reach, but for its
-- line and pins, which are the entry's
pub record AllTold (n : ℕ) (owner : Owner) (t : Table) (cs : List Call) : Type 0 where
  pub events : List Event
  pub keep : (step : ℕ) → steps_from n owner t step events ≡ Pass
  pub leave : ended t events ≡ beside t.pins (line_of t) (run n t cs)

-- the same on the table with the entry's line and pins, on which the events are made
record ToldAt (n : ℕ) (owner : Owner) (pins : List ℕ) (line : ℕ) (t : Table) (cs : List Call) : Type 0 where
  events : List Event
  keep : (step : ℕ) → steps_from n owner (beside pins line t) step events ≡ Pass
  leave : ended (beside pins line t) events ≡ beside pins line (run n t cs)

module _ (n : ℕ) (owner : Owner) (pins : List ℕ) (line : ℕ) where
  told-first : (t : Table) (c : Call) (cs : List Call) (es : List Event)
      → ((step : ℕ) → steps_from n owner (beside pins line t) step es ≡ Pass)
      → ended (beside pins line t) es ≡ beside pins line (after n t c)
      → ToldAt n owner pins line (after n t c) cs → ToldAt n owner pins line t (c ∷ cs)
  unfolding run
  told-first t c cs es keep next rest =
      record {
        events = es ++ rest.events;
        keep = λ step. steps_join n owner (beside pins line t) step es rest.events (keep step) (λ k. rw next (rest.keep k));
        leave = ended_join (beside pins line t) es rest.events ∙ rw next rest.leave;
      }

  -- one call, told on the table with the entry's line and pins
  data Step (t : Table) (c : Call) : Type 0 where
    by-events : (es : List Event) → ((step : ℕ) → steps_from n owner (beside pins line t) step es ≡ Pass)
        → ended (beside pins line t) es ≡ beside pins line (after n t c) → Step t c

  module _ (t : Table) (h : holder_test n (beside pins line t) owner ≡ Pass) where
    reads_none : (c : Call) → pinning c ≡ false → (Accepts n t c → Elsewhere owner c) → Step t c
    reads_none c e f = go (call-told n owner (beside pins line t) h c (λ a. f (sym (refusal_unseen n pins line t c e) ∙ a)))
      where
        go : Tellable n owner (beside pins line t) c → Step t c
        go (by es keep leave) = by-events es keep (leave ∙ after_line n pins line t c e)

    step-told : (c : Call) → (Accepts n t c → Elsewhere owner c) → Step t c
    unfolding steps_from event_test rule_of ended event_change changeByEvent after change_of change_accepted
    step-told (begin number) f = reads_none (begin number) refl f
    step-told (end slot id) f = reads_none (end slot id) refl f
    step-told (snap clock sample) f = reads_none (snap clock sample) refl f
    step-told (own slot id clock sample) f = reads_none (own slot id clock sample) refl f
    step-told (oldest clock sample) f = reads_none (oldest clock sample) refl f
    step-told (vacuum clock sample) f = reads_none (vacuum clock sample) refl f
    step-told (stamp number) f = reads_none (stamp number) refl f
    step-told (finish slot id number) f = reads_none (finish slot id number) refl f
    step-told (pin clock sample) f = go (refusal n t (pin clock sample)) refl
      where
        go : (v : Verdict) → refusal n t (pin clock sample) ≡ v → Step t (pin clock sample)
        go Pass a =
            let o = (accepted_acceptable n t (pin clock sample) a).0 in
            by-events (observes_clock clock sample ∷ []) (λ step. rw (observation-passes (clock_of t) clock sample o)) (rw a)
        go (Refuse r) e = by-events [] (λ step. refl) (after-refused n pins line t (pin clock sample) r refl e)
    step-told (unpin k) f = go (refusal n t (unpin k)) refl
      where
        go : (v : Verdict) → refusal n t (unpin k) ≡ v → Step t (unpin k)
        go Pass a = by-events [] (λ step. refl) (rw a)
        go (Refuse r) e = by-events [] (λ step. refl) (after-refused n pins line t (unpin k) r refl e)

  told_at : (t : Table) (cs : List Call) → holder_test n (beside pins line t) owner ≡ Pass → Meanwhile n owner t cs
      → ToldAt n owner pins line t cs
  unfolding steps_from ended run
  told_at t [] h nothing = record { events = []; keep = λ step. refl; leave = refl }
  told_at t (c ∷ cs) h (then f m) = go (step-told t h c f) (λ held. told_at (after n t c) cs held m)
    where
      go : Step t c → (holder_test n (beside pins line (after n t c)) owner ≡ Pass → ToldAt n owner pins line (after n t c) cs)
          → ToldAt n owner pins line t (c ∷ cs)
      go (by-events es keep next) f =
          told-first t c cs es keep next (f (rw next at (holds_on n owner (beside pins line t) es h (keep 1))))

pub calls_told : (n : ℕ) (owner : Owner) (t : Table) (cs : List Call) → holder_test n t owner ≡ Pass → Meanwhile n owner t cs
    → AllTold n owner t cs
calls_told n owner t cs h m =
    let w = told_at n owner t.pins (line_of t) t cs h m in
    record { events = w.events; keep = w.keep; leave = w.leave }

-- so their text, where it reads, is answered with that table
pub calls_accepted : (n : ℕ) (owner : Owner) (t : Table) (cs : List Call) (s : List ℕ) (w : AllTold n owner t cs)
    → events_of s ≡ Whole Wait1 w.events → table_passes n t ≡ true → holder_test n t owner ≡ Pass
    → wait_of n t owner s ≡ record { table = beside t.pins (line_of t) (run n t cs); verdict = Pass }
calls_accepted n owner t cs s w e p h =
    rw (sym w.leave)
    (accepts n t owner s (record { events = w.events; text = e; entry = p; holder = h; steps = w.keep 1 }))
