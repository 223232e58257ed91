-- What a call of the model does and answers, in the second engine's numbers.
use Rattle.std.specs.Prelude.{ℕ, get_or, set, Result, Ok, Err}
use Rattle.kinds.specs.declared.told.Told.{Told}
use Rattle.kinds.specs.Refusals.{accepted}
use Rattle.model.specs.declared.Counters.{Counters}
use Rattle.model.specs.declared.Table.{Table}
use Rattle.model.specs.declared.answer.Numbers.{Numbers}
use Rattle.model.specs.declared.change.SlotChange.{SlotChange}
use Rattle.model.specs.declared.change.SlotChange.TheVariants.{Stays, Enters, Leaves, Retains, Pins}
use Rattle.model.specs.declared.change.Change.{Change}
use Rattle.model.specs.Tables.{lent}
use Rattle.model.specs.Calls.{Call, change_of, answer, shown}
use Rattle.model.specs.Answers.{numbers_beside}
use Rattle.ledger_scans.specs.declared.flight.Flight.{Flight}
use Rattle.ledger_calls.specs.declared.Moved.{Moved}
use Rattle.ledger_calls.specs.declared.Moved.TheVariants.{Nothing, Slot, Pin}
use Rattle.ledger_calls.specs.declared.Deed.{Deed}
use Rattle.ledger_calls.specs.declared.Did.{Did}

-- the three kinds of answer: what is told and the line alone; a snapshot's numbers; who holds the vacuum back
abbrev pub plainly : Told → ℕ → Numbers
plainly told line = record { told = told; xmin = 0; xmax = 0; vacuum_line = line; count = 0; holder = 0 }

abbrev pub showing : Told → Flight → ℕ → Numbers
showing told f line =
    record { told = told; xmin = f.xmin; xmax = f.xmax; vacuum_line = line; count = f.count; holder = 0 }

abbrev pub holding : ℕ → ℕ → ℕ → Numbers
holding xmin holder line =
    record { told = accepted; xmin = xmin; xmax = 0; vacuum_line = line; count = 0; holder = holder }

-- the three kinds of deed
abbrev pub deed_stays : Counters → Deed
deed_stays k = record { moved = Nothing; counters = k }

abbrev pub deed_in_slot : ℕ → ℕ → ℕ → Counters → Deed
deed_in_slot place txid xmin k = record { moved = Slot place txid xmin; counters = k }

abbrev pub deed_in_pin : ℕ → ℕ → Counters → Deed
deed_in_pin pin held k = record { moved = Pin pin held; counters = k }

abbrev pub stayed : Numbers → Counters → Did
stayed numbers k = record { deed = deed_stays k; numbers = numbers }

abbrev pub in_slot : Numbers → ℕ → ℕ → ℕ → Counters → Did
in_slot numbers place txid xmin k = record { deed = deed_in_slot place txid xmin k; numbers = numbers }

abbrev pub in_pin : Numbers → ℕ → ℕ → Counters → Did
in_pin numbers pin held k = record { deed = deed_in_pin pin held k; numbers = numbers }

-- what a call did; one that a test turned down answers so, and moves nothing
abbrev pub or_refused : Counters → Result Did Told → Did
or_refused was (Ok did) = did
or_refused was (Err told) = stayed (plainly told was.vacuum_line) was

-- a change of the model as a deed: a slot that retains keeps its txid
abbrev pub deed_by : Table → SlotChange → Counters → Deed
deed_by t Stays k = deed_stays k
deed_by t (Enters slot txid) k = deed_in_slot slot.0 txid.0 txid.0 k
deed_by t (Leaves slot) k = deed_in_slot slot.0 0 0 k
deed_by t (Retains slot xmin) k = deed_in_slot slot.0 (get_or t.txids slot.0 0) xmin k
deed_by t (Pins pin xmin) k = deed_in_pin pin.0 xmin k

abbrev pub deed_of : Table → Change → Deed
deed_of t c = deed_by t c.slot c.counters

-- what a call does on a table, and what it answers
unfoldable pub did_by : ℕ → Table → Call → Did
did_by n t c =
    record {
      deed = deed_of t (change_of n t c);
      numbers = numbers_beside (answer n t c) (shown n t c) (change_of n t c).counters.vacuum_line;
    }

-- the table that a deed leaves: what it doesn't name stays as it was
abbrev pub left_by : Table → Moved → Counters → Table
left_by t Nothing k = lent t.txids t.snapshot_xmins t.pins k
left_by t (Slot place txid xmin) k = lent (set t.txids place txid) (set t.snapshot_xmins place xmin) t.pins k
left_by t (Pin pin held) k = lent t.txids t.snapshot_xmins (set t.pins pin held) k

abbrev pub left : Table → Deed → Table
left t d = left_by t d.moved d.counters
