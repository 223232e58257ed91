-- What an event that keeps its rule leaves: a table that passes the check, the owner's slot, the line, and the pins.
use Prim.Native.Nat.{ℕ, ◌≤◌}
use mathlib.Core.Path.{◌≡◌, refl, sym}
use mathlib.Core.Logic.{◌≢◌}
use mathlib.Core.Bool.{Bool, true, not, ◌&&◌, false≢true, and-eq-true_iff}
use native.Mathlib.Nat.{le_refl}
use native.Mathlib.Omega.{arith}
use lib.Dec.{ltb, leb}
use lib.Seq.{get_or-set_other}
use borrow.Author.Tests.{leb-true, eqb-false, not-true}
use Rattle.kinds.specs.declared.SlotNo.{SlotNo}
use Rattle.kinds.specs.declared.Txid.{Txid}
use Rattle.kinds.specs.Verdicts.{Verdict, Pass, Refuse}
use Rattle.kinds.specs.Kinds.{slot, txid, number}
use Rattle.model.specs.declared.Table.{Table}
use Rattle.model.specs.declared.change.SlotChange.TheVariants.{Stays, Enters, Leaves, Retains}
use Rattle.model.specs.Tally.{active}
use Rattle.model.specs.Tables.{txid_at, xmin_at, clock_of, line_of}
use Rattle.model.specs.Changes.{past_number, observed, applied}
use Rattle.model.specs.Accepted.{Observes}
use Rattle.model.specs.Facts.{Good}
use Rattle.model.proofs.Tally.{minimum_start}
use Rattle.model.proofs.Tests.{reserves, observes}
use Rattle.model.proofs.Moves.{is_taken, is_held, CountersFit, good-applied}
use Rattle.events.specs.declared.Kind.{Kind}
use Rattle.events.specs.declared.Kind.TheVariants.{Register, End, Horizon, Reserve, Observe}
use Rattle.events.specs.declared.Event.{Event}
use Rattle.wait_rules.specs.Owner.{Owner, Holds}
use Rattle.wait_rules.specs.Steps.{may_name, is_empty, least_active, passed, register_rule, end_rule, horizon_rule, rule_of, event_test}
use Rattle.wait_rules.specs.Steps.{change_by, event_change, event_after}

pub passed_pass : (v : Verdict) → passed v ≡ true → v ≡ Pass
passed_pass Pass e = refl
passed_pass (Refuse r) e = absurd (false≢true e)

module _ (n : ℕ) (t : Table) (g : Good n t) where
  -- the counters after each event fit
  counters-stay : CountersFit t t.counters
  counters-stay =
      record {
        onward = le_refl _;
        sample_from_1 = g.sample_from_1;
        sample_to_clock = g.sample_to_clock;
        line_from_1 = g.line_from_1;
        line_to_clock = g.line_to_clock;
        under = λ i h. (is_taken (g.each i) h).over;
        under_pin = λ i h. (is_held (g.each_pin i) h).over;
      }

  counters-past : (m : ℕ) → clock_of t ≤ m → CountersFit t (past_number m t.counters)
  counters-past m h =
      record {
        onward = omega arith;
        sample_from_1 = g.sample_from_1;
        sample_to_clock = omega (arith, g.sample_to_clock);
        line_from_1 = g.line_from_1;
        line_to_clock = omega (arith, g.line_to_clock);
        under = λ i h. (is_taken (g.each i) h).over;
        under_pin = λ i h. (is_held (g.each_pin i) h).over;
      }

  counters-observed : (clock sample : ℕ) → Observes (clock_of t) clock sample → CountersFit t (observed clock sample t.counters)
  counters-observed clock sample o =
      record {
        onward = o.onward;
        sample_from_1 = o.positive;
        sample_to_clock = o.within;
        line_from_1 = g.line_from_1;
        line_to_clock = omega (arith, g.line_to_clock, o.onward);
        under = λ i h. (is_taken (g.each i) h).over;
        under_pin = λ i h. (is_held (g.each_pin i) h).over;
      }

  -- the facts of the check are kept
  good-by : (owner : Owner) (e : Event) (k : Kind) → rule_of k n t owner e ≡ true → Good n (applied t (change_by k t e))
  unfolding rule_of register_rule end_rule horizon_rule change_by
  good-by owner e Register h =
      let b = ((and-eq-true_iff (may_name n owner e.slot) _).0 h).1 in
      let d = ((and-eq-true_iff (is_empty t.txids e.slot) _).0 b).1 in
      let r = reserves (clock_of t) (number e.id) (passed_pass _ d) in
      good-applied n t (past_number e.id t.counters) g (counters-past e.id r.from_clock) (Enters (slot e.slot) (txid e.id))
      (record {
        positive = r.positive;
        new = r.from_clock;
        past = omega arith;
        over = omega (arith, g.line_to_clock, r.from_clock);
      })
  good-by owner e End h = good-applied n t t.counters g counters-stay (Leaves (slot e.slot)) tt
  good-by owner e Horizon h =
      let b = ((and-eq-true_iff (may_name n owner e.slot) _).0 h).1 in
      let (c, d) = (and-eq-true_iff (not (is_empty t.txids e.slot)) _).0 b in
      let (l, u) = (and-eq-true_iff (leb 1 e.xmin) _).0 d in
      let below = leb-true e.xmin (least_active t.txids e.slot) u in
      good-applied n t t.counters g counters-stay (Retains (slot e.slot) e.xmin)
      (record {
        holds = eqb-false (txid_at t e.slot) 0 (not-true _ c);
        low = leb-true 1 e.xmin l;
        under = omega (arith, below, minimum_start (txid_at t e.slot) (active t.txids));
      })
  good-by owner e Reserve h =
      let r = reserves (clock_of t) (number e.id) (passed_pass _ h) in
      good-applied n t (past_number e.id t.counters) g (counters-past e.id r.from_clock) Stays tt
  good-by owner e Observe h =
      let o = observes (clock_of t) e.clock e.sample (passed_pass _ h) in
      good-applied n t (observed e.clock e.sample t.counters) g (counters-observed e.clock e.sample o) Stays tt

  pub good_event : (owner : Owner) (e : Event) → event_test n t owner e ≡ true → Good n (event_after t e)
  unfolding event_test event_change
  good_event owner e h = good-by owner e e.kind h

-- slot i holds in u what it held in t
pub record SlotStays (t u : Table) (i : ℕ) : Type 0 where
  pub txid_stays : txid_at u i ≡ txid_at t i
  pub xmin_stays : xmin_at u i ≡ xmin_at t i

module _ (n : ℕ) (t : Table) (mine : SlotNo) (id : Txid) (e : Event) where
  -- an event that names a slot names another than the owner's
  other_slot : (rest : Bool) → (may_name n (Holds mine id) e.slot && rest) ≡ true → mine.0 ≢ e.slot
  other_slot rest h q =
      let may = ((and-eq-true_iff (may_name n (Holds mine id) e.slot) rest).0 h).0 in
      eqb-false e.slot mine.0 (not-true _ ((and-eq-true_iff (ltb e.slot n) _).0 may).1) (sym q)

  stays_by : (k : Kind) → rule_of k n t (Holds mine id) e ≡ true → SlotStays t (applied t (change_by k t e)) mine.0
  unfolding rule_of register_rule end_rule horizon_rule change_by
  stays_by Register h =
      let d = other_slot _ h in
      record {
        txid_stays = get_or-set_other t.txids e.slot mine.0 e.id 0 d;
        xmin_stays = get_or-set_other t.snapshot_xmins e.slot mine.0 e.id 0 d;
      }
  stays_by End h =
      let d = other_slot _ h in
      record {
        txid_stays = get_or-set_other t.txids e.slot mine.0 0 0 d;
        xmin_stays = get_or-set_other t.snapshot_xmins e.slot mine.0 0 0 d;
      }
  stays_by Horizon h =
      let d = other_slot _ h in
      record { txid_stays = refl; xmin_stays = get_or-set_other t.snapshot_xmins e.slot mine.0 e.xmin 0 d }
  stays_by Reserve h = record { txid_stays = refl; xmin_stays = refl }
  stays_by Observe h = record { txid_stays = refl; xmin_stays = refl }

  pub slot-stays : event_test n t (Holds mine id) e ≡ true → SlotStays t (event_after t e) mine.0
  unfolding event_test event_change
  slot-stays h = stays_by e.kind h

-- no event moves the line
line_by : (t : Table) (e : Event) (k : Kind) → line_of (applied t (change_by k t e)) ≡ line_of t
unfolding change_by
line_by t e Register = refl
line_by t e End = refl
line_by t e Horizon = refl
line_by t e Reserve = refl
line_by t e Observe = refl

pub line_stays : (t : Table) (e : Event) → line_of (event_after t e) ≡ line_of t
unfolding event_change
line_stays t e = line_by t e e.kind

-- .. nor a pin
pins_by : (t : Table) (e : Event) (k : Kind) → (applied t (change_by k t e)).pins ≡ t.pins
unfolding change_by
pins_by t e Register = refl
pins_by t e End = refl
pins_by t e Horizon = refl
pins_by t e Reserve = refl
pins_by t e Observe = refl

pub pins_stay : (t : Table) (e : Event) → (event_after t e).pins ≡ t.pins
unfolding event_change
pins_stay t e = pins_by t e e.kind
