-- The ten calls on a table of n slots: when each is refused, what it changes, what it answers, and the snapshot that it shows.
use Rattle.std.specs.Prelude.{ℕ, max, List, [], ◌∷◌}
use Rattle.kinds.specs.declared.Stamp.{Stamp}
use Rattle.kinds.specs.declared.SlotNo.{SlotNo}
use Rattle.kinds.specs.declared.PinNo.{PinNo}
use Rattle.kinds.specs.declared.Txid.{Txid}
use Rattle.kinds.specs.Verdicts.{Verdict, Pass, Refuse, then}
use Rattle.kinds.specs.Kinds.{slot, pin_no, txid_of}
use Rattle.kinds.specs.Refusals.{consumed}
use Rattle.settled.specs.declared.Snapshot.{Snapshot}
use Rattle.settled.specs.Snapshots.{no_snapshot}
use Rattle.model.specs.declared.Counters.{Counters}
use Rattle.model.specs.declared.Table.{Table}
use Rattle.model.specs.declared.change.SlotChange.TheVariants.{Stays, Enters, Leaves, Retains, Pins}
use Rattle.model.specs.declared.change.Change.{Change}
use Rattle.model.specs.Answer.{Answer, Begun, Done, Pinned, Oldest, Line, Stamped, Refused}
use Rattle.model.specs.declared.answer.Decision.{Decision}
use Rattle.model.specs.declared.answer.SnapshotDecision.{SnapshotDecision}
use Rattle.model.specs.declared.answer.Outcome.{Outcome}
use Rattle.model.specs.declared.answer.SnapshotOutcome.{SnapshotOutcome}
use Rattle.model.specs.Tally.{active, lowest_empty, minimum, xmin_of, snapshot_of, oldest_of, holder_of, pin_holder_of}
use Rattle.model.specs.Tables.{line_of, clock_of}
use Rattle.model.specs.Changes.{change, past_number, observed, with_line, applied}
use Rattle.model.specs.Tests.{owner_test, reservation_test, full_test, observation_test, pin_test, release_test}

-- a call with what the host hands in: a reserved number; a registration; a clock with a sample of it; a pin's number
pub data Call : Type 0 where
  begin : Stamp → Call
  end : SlotNo → Txid → Call
  snap : ℕ → ℕ → Call
  own : SlotNo → Txid → ℕ → ℕ → Call
  oldest : ℕ → ℕ → Call
  vacuum : ℕ → ℕ → Call
  stamp : Stamp → Call
  finish : SlotNo → Txid → Stamp → Call
  pin : ℕ → ℕ → Call
  unpin : PinNo → Call

-- the order of checks of each call
unfoldable pub refusal : ℕ → Table → Call → Verdict
refusal n t (begin number) = then (reservation_test (clock_of t) number) (full_test n t.txids number)
refusal n t (end slot id) = owner_test n t.txids slot id
refusal n t (snap clock sample) = observation_test (clock_of t) clock sample
refusal n t (own slot id clock sample) = then (owner_test n t.txids slot id) (observation_test (clock_of t) clock sample)
refusal n t (oldest clock sample) = observation_test (clock_of t) clock sample
refusal n t (vacuum clock sample) = observation_test (clock_of t) clock sample
refusal n t (stamp number) = reservation_test (clock_of t) number
refusal n t (finish slot id number) = then (owner_test n t.txids slot id) (reservation_test (clock_of t) number)
refusal n t (pin clock sample) = then (observation_test (clock_of t) clock sample) (pin_test t.pins)
refusal n t (unpin k) = release_test t.pins k

-- what oldest finds on this table: the smallest of sample, the snapshot_xmin of taken slots, and the taken pins
abbrev pub oldest_in : Table → ℕ → ℕ
oldest_in t sample = minimum (oldest_of t.txids t.snapshot_xmins sample) (active t.pins)

-- who holds that back: the lowest taken slot that retains it; where none does, the lowest pin
abbrev pub holder_in : Table → ℕ → ℕ
holder_in t sample =
    holder_of t.txids t.snapshot_xmins (oldest_in t sample) (pin_holder_of t.pins (oldest_in t sample))

-- the line that a vacuum leaves
abbrev pub raised_line : Table → ℕ → ℕ
raised_line t sample = max (line_of t) (oldest_in t sample)

-- the sample that a pinned snapshot uses: the larger of the one given and the line
abbrev pub pin_sample : Table → ℕ → ℕ
pin_sample t sample = max sample (line_of t)

-- what an accepted call changes
unfoldable pub change_accepted : Table → Call → Change
change_accepted t (begin number) =
    change (Enters (slot (lowest_empty t.txids)) (txid_of number)) (past_number number.0 t.counters)
change_accepted t (end slot id) = change (Leaves slot) t.counters
change_accepted t (snap clock sample) = change Stays (observed clock sample t.counters)
change_accepted t (own slot id clock sample) =
    change (Retains slot (xmin_of sample (active t.txids))) (observed clock sample t.counters)
change_accepted t (oldest clock sample) = change Stays (observed clock sample t.counters)
change_accepted t (vacuum clock sample) = change Stays (with_line (raised_line t sample) (observed clock sample t.counters))
change_accepted t (stamp number) = change Stays (past_number number.0 t.counters)
change_accepted t (finish slot id number) = change (Leaves slot) (past_number number.0 t.counters)
change_accepted t (pin clock sample) =
    change (Pins (pin_no (lowest_empty t.pins)) (xmin_of (pin_sample t sample) (active t.txids)))
    (observed clock sample t.counters)
change_accepted t (unpin k) = change (Pins k 0) t.counters

-- the clock goes past each number that was consumed
unfoldable pub spent : List ℕ → Counters → Counters
spent [] k = k
spent (number ∷ numbers) k = spent numbers (past_number number k)

-- a refused call changes nothing but by what its refusal consumes
abbrev pub change_by : Verdict → Table → Call → Change
change_by Pass t c = change_accepted t c
change_by (Refuse r) t c = change Stays (spent (consumed r) t.counters)

unfoldable pub change_of : ℕ → Table → Call → Change
change_of n t c = change_by (refusal n t c) t c

-- the table after a call
unfoldable pub after : ℕ → Table → Call → Table
after n t c = applied t (change_of n t c)

-- what an accepted call answers
unfoldable pub answer_accepted : Table → Call → Answer
answer_accepted t (begin number) = Begun (slot (lowest_empty t.txids)) (txid_of number)
answer_accepted t (end slot id) = Done
answer_accepted t (snap clock sample) = Done
answer_accepted t (own slot id clock sample) = Done
answer_accepted t (oldest clock sample) = Oldest (oldest_in t sample) (holder_in t sample)
answer_accepted t (vacuum clock sample) = Line (raised_line t sample) (holder_in t sample)
answer_accepted t (stamp number) = Stamped number
answer_accepted t (finish slot id number) = Stamped number
answer_accepted t (pin clock sample) = Pinned (pin_no (lowest_empty t.pins))
answer_accepted t (unpin k) = Done

abbrev pub answer_by : Verdict → Table → Call → Answer
answer_by Pass t c = answer_accepted t c
answer_by (Refuse r) t c = Refused r

unfoldable pub answer : ℕ → Table → Call → Answer
answer n t c = answer_by (refusal n t c) t c

-- the snapshot that an accepted call shows; a call that takes none shows zeros
unfoldable pub shown_accepted : ℕ → Table → Call → Snapshot
shown_accepted n t (begin number) = no_snapshot n
shown_accepted n t (end slot id) = no_snapshot n
shown_accepted n t (snap clock sample) = snapshot_of n t.txids sample
shown_accepted n t (own slot id clock sample) = snapshot_of n t.txids sample
shown_accepted n t (oldest clock sample) = no_snapshot n
shown_accepted n t (vacuum clock sample) = no_snapshot n
shown_accepted n t (stamp number) = no_snapshot n
shown_accepted n t (finish slot id number) = no_snapshot n
shown_accepted n t (pin clock sample) = snapshot_of n t.txids (pin_sample t sample)
shown_accepted n t (unpin k) = no_snapshot n

-- beside a refusal stands a snapshot of zeros only
abbrev pub shown_by : Verdict → ℕ → Table → Call → Snapshot
shown_by Pass n t c = shown_accepted n t c
shown_by (Refuse r) n t c = no_snapshot n

unfoldable pub shown : ℕ → Table → Call → Snapshot
shown n t c = shown_by (refusal n t c) n t c

-- what a call decides on lent columns, which are a table; of a snapshot call, with its snapshot
unfoldable pub decision : ℕ → Table → Call → Decision
decision n t c = record { change = change_of n t c; answer = answer n t c }

unfoldable pub snapshot_decision : ℕ → Table → Call → SnapshotDecision
snapshot_decision n t c = record { change = change_of n t c; answer = answer n t c; snapshot = shown n t c }

-- what comes back from a call on a table by value
unfoldable pub outcome : ℕ → Table → Call → Outcome
outcome n t c = record { table = after n t c; answer = answer n t c }

unfoldable pub snapshot_outcome : ℕ → Table → Call → SnapshotOutcome
snapshot_outcome n t c = record { table = after n t c; answer = answer n t c; snapshot = shown n t c }
