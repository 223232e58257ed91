-- The events of a wait on a table of n slots: when each may happen, and what it changes.
use Rattle.std.specs.Prelude.{ℕ, Bool, true, false, ◌&&◌, not, List, eqb, ltb, leb, get_or}
use Rattle.kinds.specs.Verdicts.{Verdict, Pass, Refuse}
use Rattle.kinds.specs.Kinds.{slot, txid, number}
use Rattle.model.specs.declared.Counters.{Counters}
use Rattle.model.specs.declared.Table.{Table}
use Rattle.model.specs.declared.change.SlotChange.TheVariants.{Stays, Enters, Leaves, Retains}
use Rattle.model.specs.declared.change.Change.{Change}
use Rattle.model.specs.Tally.{active, minimum}
use Rattle.model.specs.Tables.{clock_of}
use Rattle.model.specs.Changes.{change, past_number, observed, applied}
use Rattle.model.specs.Tests.{reservation_test, observation_test}
use Rattle.counters.specs.Reserved.{reserved_from}
use Rattle.events.specs.declared.Kind.{Kind}
use Rattle.events.specs.declared.Kind.TheVariants.{Register, End, Horizon, Reserve, Observe}
use Rattle.events.specs.declared.Event.{Event}
use Rattle.wait_rules.specs.Owner.{Owner, Nobody, HeldBy}

-- the slot is not the owner's
abbrev pub not_owned : Owner → ℕ → Bool
not_owned Nobody i = true
not_owned (HeldBy own) i = not (eqb i own.slot.0)

-- register, end and horizon name a slot that the table has and that is not the owner's
abbrev pub may_name : ℕ → Owner → ℕ → Bool
may_name n owner i = ltb i n && not_owned owner i

abbrev pub is_empty : List ℕ → ℕ → Bool
is_empty txids i = eqb (get_or txids i 0) 0

-- the least active id of all taken slots, of which slot i is one
abbrev pub least_active : List ℕ → ℕ → ℕ
least_active txids i = minimum (get_or txids i 0) (active txids)

abbrev pub passed : Verdict → Bool
passed Pass = true
passed (Refuse r) = false

-- register: an empty slot, and a number fit for reservation
unfoldable pub register_rule : ℕ → List ℕ → ℕ → Owner → ℕ → ℕ → Bool
register_rule n txids clock owner i id = may_name n owner i && (is_empty txids i && passed (reservation_test clock (number id)))

-- end: a taken slot
unfoldable pub end_rule : ℕ → List ℕ → Owner → ℕ → Bool
end_rule n txids owner i = may_name n owner i && not (is_empty txids i)

-- horizon: a taken slot, and an xmin from 1 to the least active id
unfoldable pub horizon_rule : ℕ → List ℕ → Owner → ℕ → ℕ → Bool
horizon_rule n txids owner i xmin =
    may_name n owner i && (not (is_empty txids i) && (leb 1 xmin && leb xmin (least_active txids i)))

-- reserve: as stamp; observe: by refusals 7 and 8
unfoldable pub rule_of : Kind → ℕ → Table → Owner → Event → Bool
rule_of Register n t owner e = register_rule n t.txids (clock_of t) owner e.slot e.id
rule_of End n t owner e = end_rule n t.txids owner e.slot
rule_of Horizon n t owner e = horizon_rule n t.txids owner e.slot e.xmin
rule_of Reserve n t owner e = passed (reservation_test (clock_of t) (number e.id))
rule_of Observe n t owner e = passed (observation_test (clock_of t) e.clock e.sample)

unfoldable pub event_test : ℕ → Table → Owner → Event → Bool
event_test n t owner e = rule_of e.kind n t owner e

-- what each event changes; none moves the line
unfoldable pub change_by : Kind → Table → Event → Change
change_by Register t e = change (Enters (slot e.slot) (txid e.id)) (past_number e.id t.counters)
change_by End t e = change (Leaves (slot e.slot)) t.counters
change_by Horizon t e = change (Retains (slot e.slot) e.xmin) t.counters
change_by Reserve t e = change Stays (past_number e.id t.counters)
change_by Observe t e = change Stays (observed e.clock e.sample t.counters)

unfoldable pub event_change : Table → Event → Change
event_change t e = change_by e.kind t e

-- the same change of any number: the clock is held at the largest number, which no event that keeps its rule has
unfoldable pub held_by : Kind → Counters → Event → Change
held_by Register was e = change (Enters (slot e.slot) (txid e.id)) (reserved_from (number e.id) was)
held_by End was e = change (Leaves (slot e.slot)) was
held_by Horizon was e = change (Retains (slot e.slot) e.xmin) was
held_by Reserve was e = change Stays (reserved_from (number e.id) was)
held_by Observe was e = change Stays (observed e.clock e.sample was)

unfoldable pub held_change : Counters → Event → Change
held_change was e = held_by e.kind was e

-- the table after an event
abbrev pub event_after : Table → Event → Table
event_after t e = applied t (event_change t e)
