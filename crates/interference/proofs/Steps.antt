-- Each event that keeps its rule, on a table that passes the check, is a step of upstream's; so an accepted wait is a valid trace.
use Prim.Native.Nat.{ℕ, ◌+◌, ◌<◌}
use native.Mathlib.Nat.{le_refl}
use native.Mathlib.Omega.{arith}
use mathlib.Core.Path.{◌≡◌, refl, sym, ap, ◌∙◌}
use mathlib.Core.Logic.{◌≢◌}
use mathlib.Core.Bool.{true, not, and-eq-true_iff}
use mathlib.Core.List.{List, [], ◌∷◌}
use lib.Dec.{ltb, leb}
use lib.ListN.{length, set}
use borrow.Author.Tests.{ltb-true, leb-true, eqb-true, eqb-false, not-true}
use Rattle.kinds.specs.Verdicts.{Pass}
use Rattle.kinds.specs.Kinds.{number}
use Rattle.model.specs.declared.Table.{Table}
use Rattle.model.specs.Tally.{active}
use Rattle.model.specs.Tables.{txid_at, clock_of}
use Rattle.model.specs.Changes.{applied}
use Rattle.model.specs.Facts.{Good}
use Rattle.model.proofs.Tally.{minimum_start}
use Rattle.model.proofs.Tests.{reserves, observes}
use Rattle.model.proofs.Moves.{equally_long}
use Rattle.model.proofs.Check.{passes-good}
use Rattle.upstream.specs.States.{Slot, slot, at, pairs, state_of}
use Rattle.upstream.proofs.Pairs.{pairs-length, pairs-at, pairs_set, pairs-set_xmin}
use Rattle.grammar.specs.Texts.{Whole}
use Rattle.events.specs.Wait.{Wait1, events_of}
use Rattle.events.specs.declared.Kind.{Kind}
use Rattle.events.specs.declared.Kind.TheVariants as kind
use Rattle.events.specs.declared.Event.{Event}
use Rattle.wait_rules.specs.Owner.{Owner, Nobody, HeldBy}
use Rattle.wait_rules.specs.Steps.{not_owned, may_name, is_empty, least_active, register_rule, end_rule, horizon_rule, rule_of, event_test}
use Rattle.wait_rules.specs.Steps.{change_by, event_change, event_after}
use Rattle.wait.specs.Waits.{steps_from, ended, wait_of}
use Rattle.wait_rules.proofs.Steps.{passed_pass, good_event}
use Rattle.wait.proofs.Waits.{went_on, accepts, heard}
use Rattle.interference.specs.Interference.{WaitEvent, Register, End, Horizon, WaitStep, Names, Allowed, Valid, none, also}
use Rattle.interference.specs.Interference.{event_by, history_by, events_told_by, history_after}

-- another slot than the owner's
not_owned_lem : (owner : Owner) (i : ℕ) (w : WaitEvent) → ((j : ℕ) → Names j w → i ≡ j) → not_owned owner i ≡ true → Allowed owner w
not_owned_lem Nobody i w f h = tt
not_owned_lem (HeldBy mine) i w f h = λ q. eqb-false i mine.slot.0 (not-true _ h) (f mine.slot.0 q)

names_none : (owner : Owner) (w : WaitEvent) → ((j : ℕ) → Names j w → ⊥) → Allowed owner w
names_none Nobody w f = tt
names_none (HeldBy mine) w f = f mine.slot.0

module _ (n : ℕ) (owner : Owner) (t : Table) (h : List ℕ) (g : Good n t) (e : Event) where
  size : length (pairs t.txids t.snapshot_xmins) ≡ n
  size = pairs-length t.txids t.snapshot_xmins (equally_long n t g) ∙ g.txid_column

  held : (i : ℕ) → (at (pairs t.txids t.snapshot_xmins) i).txid ≡ txid_at t i
  held i = ap (λ (s : Slot). s.txid) (pairs-at t.txids t.snapshot_xmins i (equally_long n t g))

  inside : may_name n owner e.slot ≡ true → e.slot < length (pairs t.txids t.snapshot_xmins)
  inside m = let l = ltb-true e.slot n ((and-eq-true_iff (ltb e.slot n) _).0 m).0 in omega (arith, size)

  other : may_name n owner e.slot ≡ true → not_owned owner e.slot ≡ true
  other m = ((and-eq-true_iff (ltb e.slot n) _).0 m).1

  abbrev Steps : Kind → Type 0
  Steps k =
      WaitStep (state_of t h) (state_of (applied t (change_by k t e)) (history_by k h e)) (event_by k e) × Allowed owner (event_by k e)

  step_by : (k : Kind) → rule_of k n t owner e ≡ true → Steps k
  unfolding rule_of register_rule end_rule horizon_rule change_by
  step_by kind.Register q =
      let (m, b) = (and-eq-true_iff (may_name n owner e.slot) _).0 q in
      let (z, d) = (and-eq-true_iff (is_empty t.txids e.slot) _).0 b in
      let r = reserves (clock_of t) (number e.id) (passed_pass _ d) in (
        record {
          inside = inside m;
          empty = held e.slot ∙ eqb-true (txid_at t e.slot) 0 z;
          from_clock = r.from_clock;
          below_top = r.below_top;
          slots = pairs_set t.txids t.snapshot_xmins e.slot e.id e.id;
          clock = refl;
          sample = refl;
          reservations = refl;
        },
        not_owned_lem owner e.slot (Register e.slot e.id) (λ j p. p) (other m),
      )
  step_by kind.End q =
      let (m, b) = (and-eq-true_iff (may_name n owner e.slot) _).0 q in
      let taken : txid_at t e.slot ≢ 0 = eqb-false (txid_at t e.slot) 0 (not-true _ b) in (
        record {
          inside = inside m;
          taken = omega (arith, held e.slot, taken);
          slots = pairs_set t.txids t.snapshot_xmins e.slot 0 0;
          clock = refl;
          sample = refl;
          reservations = refl;
        },
        not_owned_lem owner e.slot (End e.slot) (λ j p. p) (other m),
      )
  step_by kind.Horizon q =
      let (m, b) = (and-eq-true_iff (may_name n owner e.slot) _).0 q in
      let (c, d) = (and-eq-true_iff (not (is_empty t.txids e.slot)) _).0 b in
      let (l, u) = (and-eq-true_iff (leb 1 e.xmin) _).0 d in
      let below = leb-true e.xmin (least_active t.txids e.slot) u in (
        record {
          inside = inside m;
          positive = leb-true 1 e.xmin l;
          within = omega (arith, below, minimum_start (txid_at t e.slot) (active t.txids), held e.slot);
          onward = le_refl _;
          sample_positive = g.sample_from_1;
          sample_within = g.sample_to_clock;
          slots =
              pairs-set_xmin t.txids t.snapshot_xmins e.slot e.xmin
              ∙ ap (λ (x : ℕ). set (pairs t.txids t.snapshot_xmins) e.slot (slot x e.xmin)) (sym (held e.slot));
          reservations = refl;
        },
        not_owned_lem owner e.slot (Horizon e.slot e.xmin) (λ j p. p) (other m),
      )
  step_by kind.Reserve q =
      let r = reserves (clock_of t) (number e.id) (passed_pass _ q) in (
        record {
          from_clock = r.from_clock;
          below_top = r.below_top;
          clock = refl;
          reservations = refl;
          slots = refl;
          sample = refl;
        },
        names_none owner (event_by kind.Reserve e) (λ j p. p),
      )
  step_by kind.Observe q =
      let o = observes (clock_of t) e.clock e.sample (passed_pass _ q) in (
        record {
          slots = refl;
          reservations = refl;
          clock = o.onward;
          sample_positive = o.positive;
          sample_within = o.within;
        },
        names_none owner (event_by kind.Observe e) (λ j p. p),
      )

  pub step_is : event_test n t owner e ≡ true
      → WaitStep (state_of t h) (state_of (event_after t e) (history_by e.kind h e)) (event_by e.kind e)
      × Allowed owner (event_by e.kind e)
  unfolding event_test event_change
  step_is q = step_by e.kind q

pub steps_valid : (n : ℕ) (owner : Owner) (t : Table) (step : ℕ) (h : List ℕ) (es : List Event) → Good n t
    → steps_from n owner t step es ≡ Pass → Valid owner (state_of t h) (state_of (ended t es) (history_after h es)) (events_told_by es)
unfolding steps_from ended history_after events_told_by
steps_valid n owner t step h [] g q = none
steps_valid n owner t step h (e ∷ es) g q =
    let (a, b) = went_on (event_test n t owner e) _ _ q in
    let (s, l) = step_is n owner t h g e a in
    also s l (steps_valid n owner (event_after t e) (step + 1) (history_by e.kind h e) es (good_event n t g owner e a) b)

-- an accepted wait is a valid trace of upstream's, from the entry table to the answered one
pub record Traced (n : ℕ) (t : Table) (owner : Owner) (s h : List ℕ) : Type 0 where
  pub events : List Event
  pub text : events_of s ≡ Whole Wait1 events
  pub trace : Valid owner (state_of t h) (state_of (wait_of n t owner s).table (history_after h events)) (events_told_by events)

pub traced : (n : ℕ) (t : Table) (owner : Owner) (s h : List ℕ) → (wait_of n t owner s).verdict ≡ Pass → Traced n t owner s h
traced n t owner s h q =
    let w = heard n t owner s q in
    record {
      events = w.events;
      text = w.text;
      trace = rw (accepts n t owner s w) (steps_valid n owner t 1 h w.events (passes-good n t w.entry) w.steps);
    }
