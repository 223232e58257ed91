-- What the code finds, said in the words of the rules.
use Prim.Native.Nat.{ℕ}
use mathlib.Core.Path.{◌≡◌, refl, ap}
use mathlib.Core.Bool.{true, and-eq-true_iff}
use Rattle.kinds.specs.Kinds.{slot, txid, number}
use Rattle.model.specs.declared.Table.{Table}
use Rattle.model.specs.declared.Counters.{Counters}
use Rattle.model.specs.declared.change.SlotChange.TheVariants.{Stays, Enters}
use Rattle.model.specs.Tables.{lent_txids, clock_of}
use Rattle.model.specs.Changes.{change}
use Rattle.counters.proofs.Past.{reserved-past}
use Rattle.events.specs.declared.Kind.{Kind}
use Rattle.events.specs.declared.Kind.TheVariants.{Register, End, Horizon, Reserve, Observe}
use Rattle.events.specs.declared.Event.{Event}
use Rattle.wait_rules.specs.Owner.{Owner}
use Rattle.wait_rules.specs.Steps.{may_name, is_empty, register_rule, rule_of, event_test, change_by, event_change, held_by, held_change}
use Rattle.wait_rules.proofs.Steps.{passed_pass}

-- a rule reads the txids and the clock
rule_lent : (k : Kind) (n : ℕ) (t : Table) (owner : Owner) (e : Event)
    → rule_of k n (lent_txids t.txids t.counters) owner e ≡ rule_of k n t owner e
unfolding rule_of
rule_lent Register n t owner e = refl
rule_lent End n t owner e = refl
rule_lent Horizon n t owner e = refl
rule_lent Reserve n t owner e = refl
rule_lent Observe n t owner e = refl

pub event_lent : (n : ℕ) (t : Table) (owner : Owner) (e : Event)
    → event_test n (lent_txids t.txids t.counters) owner e ≡ event_test n t owner e
unfolding event_test
event_lent n t owner e = rule_lent e.kind n t owner e

-- no event that keeps its rule reserves the largest number
held_by_lem : (k : Kind) (n : ℕ) (t : Table) (owner : Owner) (e : Event) → rule_of k n t owner e ≡ true
    → held_by k t.counters e ≡ change_by k t e
unfolding rule_of register_rule held_by change_by
held_by_lem Register n t owner e h =
    let b = ((and-eq-true_iff (may_name n owner e.slot) _).0 h).1 in
    let d = ((and-eq-true_iff (is_empty t.txids e.slot) _).0 b).1 in
    ap (λ (k : Counters). change (Enters (slot e.slot) (txid e.id)) k)
    (reserved-past (clock_of t) (number e.id) t.counters (passed_pass _ d))
held_by_lem End n t owner e h = refl
held_by_lem Horizon n t owner e h = refl
held_by_lem Reserve n t owner e h =
    ap (λ (k : Counters). change Stays k) (reserved-past (clock_of t) (number e.id) t.counters (passed_pass _ h))
held_by_lem Observe n t owner e h = refl

pub held_is : (n : ℕ) (t : Table) (owner : Owner) (e : Event) → event_test n t owner e ≡ true
    → held_change t.counters e ≡ event_change t e
unfolding event_test held_change event_change
held_is n t owner e h = held_by_lem e.kind n t owner e h
