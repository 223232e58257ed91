-- Histories at two slots, worked out by computing: that nothing here supposes the impossible, and that it says no more than it may.
use Prim.Native.Nat.{ℕ}
use mathlib.Core.Path.{◌≡◌, refl}
use mathlib.Core.Bool.{true, false}
use mathlib.Core.List.{List, [], ◌∷◌, ◌++◌}
use Rattle.kinds.specs.Kinds.{free_pins, number, slot, txid}
use Rattle.kinds.specs.Refusals.{consumed}
use Rattle.kinds.specs.declared.refusal.Refusal.TheVariants.{NoFreeSlot, InvalidSlot, SlotOwnershipMismatch}
use Rattle.settled.specs.declared.Snapshot.{Snapshot}
use Rattle.listed.specs.Listed.{listed}
use Rattle.settled.specs.Settled.{settled_in}
use Rattle.usable.specs.Usable.{usable_in}
use Rattle.settled.specs.Snapshots.{no_snapshot}
use Rattle.model.specs.Answer.{Begun, Done, Stamped, Refused}
use Rattle.model.specs.Tally.{active, retained, holder_from, lowest_empty, minimum, maximum, snapshot_of}
use Rattle.model.specs.Tables.{fresh_table}
use Rattle.model.specs.Calls.{Call, begin, end, snap, own, stamp, finish, refusal, change_accepted, change_of, spent, after}
use Rattle.model.specs.Calls.{answer_accepted, answer, shown_accepted, shown}
use Rattle.model.specs.History.{run, reached}
use Rattle.later.specs.Later.{taken, clock_after, Brings}
use Rattle.later.specs.Ends.{ended, end_answer}

-- Two transactions, and snapshots with a fresh sample: the plain one's and the transaction's xmax are the clock, not less

abbrev both : List Call
both = begin (number 1) ∷ begin (number 2) ∷ []

abbrev page : Snapshot
page = record { xmin = 1; xmax = 5; ids = 1 ∷ 2 ∷ []; count = 2 }

pub page-taken :
    (taken 2 both (snap 5 5) ≡ page) × (clock_after 2 (both ++ snap 5 5 ∷ []) ≡ 5)
    × (taken 2 both (own (slot 0) (txid 1) 5 5) ≡ page) × (clock_after 2 (both ++ own (slot 0) (txid 1) 5 5 ∷ []) ≡ 5)
    × (clock_after 2 both ≡ 3)
unfolding free_pins fresh_table run active lowest_empty minimum maximum refusal change_accepted change_of after snapshot_of shown_accepted shown
page-taken = (refl, refl, refl, refl, refl)

-- Afterwards a begin on the full table is refused, a stamp and a finish are accepted, and a begin: each brings its number

abbrev later : List Call
later = both ++ snap 5 5 ∷ []

pub numbers_brought :
    (answer 2 (reached 2 later) (begin (number 5)) ≡ Refused (NoFreeSlot (txid 5)))
    × Brings 2 later (begin (number 5)) 5
    × (answer 2 (reached 2 (later ++ begin (number 5) ∷ [])) (stamp (number 6)) ≡ Stamped (number 6))
    × Brings 2 (later ++ begin (number 5) ∷ []) (stamp (number 6)) 6
    × (answer 2 (reached 2 later) (finish (slot 0) (txid 1) (number 5)) ≡ Stamped (number 5))
    × Brings 2 later (finish (slot 0) (txid 1) (number 5)) 5
    × (answer 2 (reached 2 (later ++ end (slot 0) (txid 1) ∷ [])) (begin (number 5)) ≡ Begun (slot 0) (txid 5))
    × Brings 2 (later ++ end (slot 0) (txid 1) ∷ []) (begin (number 5)) 5
unfolding free_pins fresh_table run active lowest_empty minimum maximum consumed refusal change_accepted change_of spent after answer_accepted answer listed
numbers_brought = (refl, refl, refl, refl, refl, refl, refl, refl)

-- The reader's own id is usable although it came later; numbers from before are settled once they are no longer in flight

pub own_later : usable_in page.xmax page.ids page.count 5 5 ≡ true
unfolding listed
own_later = refl

pub earlier_settled :
    Brings 2 [] (stamp (number 1)) 1
    × (taken 2 (stamp (number 1) ∷ []) (snap 2 2) ≡ record { xmin = 2; xmax = 2; ids = 0 ∷ 0 ∷ []; count = 0 })
    × (settled_in 2 (0 ∷ 0 ∷ []) 0 1 ≡ true)
unfolding free_pins fresh_table run active lowest_empty minimum maximum refusal change_accepted change_of after answer_accepted answer snapshot_of
    shown_accepted shown listed
earlier_settled = (refl, refl, refl)

-- Ends of different slots, one of them refused, one outside the table; and of the same slot, where the order is seen

pub ends_differ :
    (end_answer 2 (reached 2 both) (slot 0) (txid 1) ≡ Done)
    × (end_answer 2 (reached 2 both) (slot 1) (txid 1) ≡ Refused (SlotOwnershipMismatch (slot 1) (txid 1) (txid 2)))
    × (end_answer 2 (reached 2 both) (slot 7) (txid 1) ≡ Refused (InvalidSlot (slot 7)))
    × (end_answer 2 (reached 2 both) (slot 0) (txid 9) ≡ Refused (SlotOwnershipMismatch (slot 0) (txid 9) (txid 1)))
    × (end_answer 2 (ended 2 (reached 2 both) (slot 0) (txid 1)) (slot 0) (txid 9)
    ≡ Refused (SlotOwnershipMismatch (slot 0) (txid 9) (txid 0)))
unfolding free_pins fresh_table run active lowest_empty refusal change_accepted change_of after answer_accepted answer
ends_differ = (refl, refl, refl, refl, refl)
