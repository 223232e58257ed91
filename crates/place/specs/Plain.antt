-- The calls that show no snapshot.
use Rattle.std.specs.Prelude.{ℕ, ◌≡◌, refl}
use Rattle.kinds.specs.declared.Stamp.{Stamp}
use Rattle.kinds.specs.declared.SlotNo.{SlotNo}
use Rattle.kinds.specs.declared.PinNo.{PinNo}
use Rattle.kinds.specs.declared.Txid.{Txid}
use Rattle.settled.specs.Snapshots.{no_snapshot}
use Rattle.model.specs.declared.Table.{Table}
use Rattle.model.specs.Calls.{Call, begin, end, oldest, vacuum, stamp, finish, unpin, shown_accepted}

-- an accepted one shows what a refused one does
abbrev pub Plain : Call → Type 0
Plain c = (n : ℕ) (t : Table) → shown_accepted n t c ≡ no_snapshot n

pub begins : (number : Stamp) → Plain (begin number)
unfolding shown_accepted
begins number n t = refl

pub ends : (slot : SlotNo) (id : Txid) → Plain (end slot id)
unfolding shown_accepted
ends slot id n t = refl

pub stamps : (number : Stamp) → Plain (stamp number)
unfolding shown_accepted
stamps number n t = refl

pub finishes : (slot : SlotNo) (id : Txid) (number : Stamp) → Plain (finish slot id number)
unfolding shown_accepted
finishes slot id number n t = refl

pub asks_oldest : (clock sample : ℕ) → Plain (oldest clock sample)
unfolding shown_accepted
asks_oldest clock sample n t = refl

pub vacuums : (clock sample : ℕ) → Plain (vacuum clock sample)
unfolding shown_accepted
vacuums clock sample n t = refl

pub unpins : (pin : PinNo) → Plain (unpin pin)
unfolding shown_accepted
unpins pin n t = refl
