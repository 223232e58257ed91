-- The calls as events: what an accepted call of another did is told by events that keep their rules. A vacuum is not: it moves the
-- line. A full begin, which consumes its number, is a reserve.
use Prim.Native.Nat.{ℕ, ◌≤◌, ◌<◌}
use native.Mathlib.Omega.{arith}
use mathlib.Core.Path.{◌≡◌, ap}
use mathlib.Core.Logic.{◌≢◌}
use mathlib.Core.Bool.{true, and-eq-true_iff}
use mathlib.Core.List.{List, [], ◌∷◌}
use lib.Dec.{ltb}
use lib.ListN.{length}
use borrow.Author.Tests.{lt-ltb, le-leb, eq-eqb, ne_eqb}
use Rattle.kinds.specs.declared.SlotNo.{SlotNo}
use Rattle.kinds.specs.declared.Stamp.{Stamp}
use Rattle.kinds.specs.declared.Txid.{Txid}
use Rattle.kinds.specs.declared.refusal.Refusal.TheVariants.{NoFreeSlot}
use Rattle.kinds.specs.Verdicts.{Pass, Refuse}
use Rattle.kinds.specs.Kinds.{txid_of}
use Rattle.kinds.specs.Refusals.{consumed}
use Rattle.model.specs.declared.Table.{Table}
use Rattle.model.specs.Tally.{active, minimum, lowest_empty, xmin_of}
use Rattle.model.specs.Tables.{txid_at, clock_of}
use Rattle.model.specs.Calls.{Call, begin, end, snap, own, oldest, stamp, finish, refusal, change_accepted, change_of, after}
use Rattle.model.specs.Calls.{spent}
use Rattle.model.specs.Accepted.{Owns, Reserves}
use Rattle.model.specs.History.{Accepts}
use Rattle.model.proofs.Tally.{minimum_member, minimum_bound, taken-active, active-taken, lowest_empty_lem}
use Rattle.model.proofs.Tests.{free_lowest, reservation-passes, observation-passes}
use Rattle.model.proofs.Accepted.{accepted_acceptable}
use Rattle.model.proofs.Refused.{Declined, stays, spends, declined}
use Rattle.model.proofs.Transactions.{registered_taken}
use Rattle.events.specs.declared.Kind.TheVariants.{Register, End, Horizon, Reserve, Observe}
use Rattle.events.specs.declared.Event.{Event}
use Rattle.wait_rules.specs.Owner.{Owner}
use Rattle.wait_rules.specs.Steps.{not_owned, may_name, register_rule, end_rule, horizon_rule, rule_of, event_test, change_by, event_change}
use Rattle.wait.specs.Waits.{steps_from, ended}

abbrev pub registers : ℕ → ℕ → Event
registers i id = record { kind = Register; slot = i; id = id; xmin = 0; clock = 0; sample = 0 }

abbrev pub ends : ℕ → Event
ends i = record { kind = End; slot = i; id = 0; xmin = 0; clock = 0; sample = 0 }

abbrev pub retains : ℕ → ℕ → Event
retains i xmin = record { kind = Horizon; slot = i; id = 0; xmin = xmin; clock = 0; sample = 0 }

abbrev pub reserves_number : ℕ → Event
reserves_number id = record { kind = Reserve; slot = 0; id = id; xmin = 0; clock = 0; sample = 0 }

abbrev pub observes_clock : ℕ → ℕ → Event
observes_clock clock sample = record { kind = Observe; slot = 0; id = 0; xmin = 0; clock = clock; sample = sample }

-- the events tell of the call: they keep their rules, from whatever step, and leave what the call leaves
pub record Tells (n : ℕ) (owner : Owner) (t : Table) (c : Call) (es : List Event) : Type 0 where
  pub keep : (step : ℕ) → steps_from n owner t step es ≡ Pass
  pub leave : ended t es ≡ after n t c

module _ (n : ℕ) (owner : Owner) (t : Table) where
  -- a slot below the count that isn't the owner's may be named
  named : (i : ℕ) → i < n → not_owned owner i ≡ true → may_name n owner i ≡ true
  named i h o = (and-eq-true_iff (ltb i n) (not_owned owner i)).1 (lt-ltb i n h, o)

  pub begin-told : (number : Stamp) → Accepts n t (begin number) → not_owned owner (lowest_empty t.txids) ≡ true
      → Tells n owner t (begin number) (registers (lowest_empty t.txids) number.0 ∷ [])
  unfolding steps_from ended event_test rule_of register_rule event_change change_by after change_of change_accepted
  begin-told number a o =
      let (r, f) = accepted_acceptable n t (begin number) a in
      let i = lowest_empty t.txids in
      record {
        keep = λ step. rw (
          named i (free_lowest n t f) o,
          eq-eqb (txid_at t i) 0 (lowest_empty_lem t.txids),
          reservation-passes (clock_of t) number r,
        );
        leave = rw a;
      }

  -- a begin on a full table consumes its number: refusal 1
  pub full-told : (number : Stamp) → refusal n t (begin number) ≡ Refuse (NoFreeSlot (txid_of number))
      → Tells n owner t (begin number) (reserves_number number.0 ∷ [])
  unfolding steps_from ended event_test rule_of event_change change_by after change_of consumed spent
  full-told number a = go (declined n t (begin number) (NoFreeSlot (txid_of number)) a)
    where
      told : Reserves (clock_of t) number.0 → Tells n owner t (begin number) (reserves_number number.0 ∷ [])
      told r = record { keep = λ step. rw (reservation-passes (clock_of t) number r); leave = rw a }

      go : Declined n t (begin number) (NoFreeSlot (txid_of number)) → Tells n owner t (begin number) (reserves_number number.0 ∷ [])
      go (stays p) = absurd (let z = ap length p in omega arith)
      go (spends m p q r f) = let same : m ≡ number = cc in told (rw same at r)

  pub end-told : (slot : SlotNo) (id : Txid) → Accepts n t (end slot id) → not_owned owner slot.0 ≡ true
      → Tells n owner t (end slot id) (ends slot.0 ∷ [])
  unfolding steps_from ended event_test rule_of end_rule event_change change_by after change_of change_accepted
  end-told slot id a o =
      let w = accepted_acceptable n t (end slot id) a in
      record {
        keep = λ step. rw (
          named slot.0 w.inside o,
          ne_eqb (txid_at t slot.0) 0 (registered_taken t slot id w.registered),
        );
        leave = rw a;
      }

  pub stamp-told : (number : Stamp) → Accepts n t (stamp number) → Tells n owner t (stamp number) (reserves_number number.0 ∷ [])
  unfolding steps_from ended event_test rule_of event_change change_by after change_of change_accepted
  stamp-told number a =
      let r = accepted_acceptable n t (stamp number) a in
      record { keep = λ step. rw (reservation-passes (clock_of t) number r); leave = rw a }

  pub snap-told : (clock sample : ℕ) → Accepts n t (snap clock sample)
      → Tells n owner t (snap clock sample) (observes_clock clock sample ∷ [])
  unfolding steps_from ended event_test rule_of event_change change_by after change_of change_accepted
  snap-told clock sample a =
      let o = accepted_acceptable n t (snap clock sample) a in
      record { keep = λ step. rw (observation-passes (clock_of t) clock sample o); leave = rw a }

  pub oldest-told : (clock sample : ℕ) → Accepts n t (oldest clock sample)
      → Tells n owner t (oldest clock sample) (observes_clock clock sample ∷ [])
  unfolding steps_from ended event_test rule_of event_change change_by after change_of change_accepted
  oldest-told clock sample a =
      let o = accepted_acceptable n t (oldest clock sample) a in
      record { keep = λ step. rw (observation-passes (clock_of t) clock sample o); leave = rw a }

  pub finish-told : (slot : SlotNo) (id : Txid) (number : Stamp) → Accepts n t (finish slot id number) → not_owned owner slot.0 ≡ true
      → Tells n owner t (finish slot id number) (ends slot.0 ∷ reserves_number number.0 ∷ [])
  unfolding steps_from ended event_test rule_of end_rule event_change change_by after change_of change_accepted
  finish-told slot id number a o =
      let (w, r) = accepted_acceptable n t (finish slot id number) a in
      record {
        keep = λ step. rw (
          named slot.0 w.inside o,
          ne_eqb (txid_at t slot.0) 0 (registered_taken t slot id w.registered),
          reservation-passes (clock_of t) number r,
        );
        leave = rw a;
      }

  -- an own xmin is from 1 to the least active id
  own-bounds : (slot : SlotNo) (id : Txid) (sample : ℕ) → Owns n t slot id → 1 ≤ sample
      → (1 ≤ xmin_of sample (active t.txids))
      × (xmin_of sample (active t.txids) ≤ minimum (txid_at t slot.0) (active t.txids))
  own-bounds slot id sample w h = (
    minimum_bound sample (active t.txids) 1 h (λ x e. positive x (active-taken t.txids x e).2),
    minimum_bound (txid_at t slot.0) (active t.txids) (xmin_of sample (active t.txids))
        (minimum_member sample (active t.txids) (txid_at t slot.0)
        (taken-active t.txids slot.0 (registered_taken t slot id w.registered)))
        (λ x e. minimum_member sample (active t.txids) x e),
  )
    where
      positive : (x : ℕ) → x ≢ 0 → 1 ≤ x
      positive x z = omega arith

  pub own-told : (slot : SlotNo) (id : Txid) (clock sample : ℕ) → Accepts n t (own slot id clock sample) → not_owned owner slot.0 ≡ true
      → Tells n owner t (own slot id clock sample)
      (observes_clock clock sample ∷ retains slot.0 (xmin_of sample (active t.txids)) ∷ [])
  unfolding steps_from ended event_test rule_of horizon_rule event_change change_by after change_of change_accepted
  own-told slot id clock sample a o =
      let (w, v) = accepted_acceptable n t (own slot id clock sample) a in
      let (low, high) = own-bounds slot id sample w v.positive in
      record {
        keep = λ step. rw (
          observation-passes (clock_of t) clock sample v,
          named slot.0 w.inside o,
          ne_eqb (txid_at t slot.0) 0 (registered_taken t slot id w.registered),
          le-leb 1 (xmin_of sample (active t.txids)) low,
          le-leb (xmin_of sample (active t.txids)) (minimum (txid_at t slot.0) (active t.txids)) high,
        );
        leave = rw a;
      }
