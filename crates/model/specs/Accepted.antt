-- When a call is accepted, said of its arguments without an order of checks.
use Rattle.std.specs.Prelude.{ℕ, ◌+◌, ◌≤◌, ◌<◌, ◌≡◌, ◌≢◌}
use Rattle.kinds.specs.declared.SlotNo.{SlotNo}
use Rattle.kinds.specs.declared.Txid.{Txid}
use Rattle.kinds.specs.declared.PinNo.{PinNo}
use Rattle.kinds.specs.Kinds.{top, pin_count}
use Rattle.model.specs.declared.Table.{Table}
use Rattle.model.specs.Tables.{txid_at, pin_at, clock_of}
use Rattle.model.specs.Tests.{farthest}
use Rattle.model.specs.Calls.{Call, begin, end, snap, own, oldest, vacuum, stamp, finish, pin, unpin}

-- the transaction (slot, id) is registered: the slot holds that txid
pub record Registered (t : Table) (slot : SlotNo) (id : Txid) : Type 0 where
  pub not_zero : id.0 ≢ 0
  pub holds : txid_at t slot.0 ≡ id.0

-- a registered transaction whose slot the table has
pub record Owns (n : ℕ) (t : Table) (slot : SlotNo) (id : Txid) : Type 0 where
  pub inside : slot.0 < n
  pub registered : Registered t slot id

-- some slot is empty
pub record Free (n : ℕ) (t : Table) : Type 0 where
  pub slot : ℕ
  pub inside : slot < n
  pub empty : txid_at t slot ≡ 0

-- a number that may be reserved at the clock
pub record Reserves (clock number : ℕ) : Type 0 where
  pub positive : 1 ≤ number
  pub from_clock : clock ≤ number
  pub below_top : number < top
  pub near : number ≤ clock + farthest

-- a clock and a sample of it that may be observed after the former clock
pub record Observes (former clock sample : ℕ) : Type 0 where
  pub onward : former ≤ clock
  pub positive : 1 ≤ sample
  pub within : sample ≤ clock

-- some pin is free
pub record SomePinFree (t : Table) : Type 0 where
  pub number : ℕ
  pub inside : number < pin_count
  pub is_free : pin_at t number ≡ 0

-- the pin holds a snapshot
pub record PinTaken (t : Table) (k : PinNo) : Type 0 where
  pub inside : k.0 < pin_count
  pub not_free : pin_at t k.0 ≢ 0

abbrev pub Acceptable : ℕ → Table → Call → Type 0
Acceptable n t (begin number) = Reserves (clock_of t) number.0 × Free n t
Acceptable n t (end slot id) = Owns n t slot id
Acceptable n t (snap clock sample) = Observes (clock_of t) clock sample
Acceptable n t (own slot id clock sample) = Owns n t slot id × Observes (clock_of t) clock sample
Acceptable n t (oldest clock sample) = Observes (clock_of t) clock sample
Acceptable n t (vacuum clock sample) = Observes (clock_of t) clock sample
Acceptable n t (stamp number) = Reserves (clock_of t) number.0
Acceptable n t (finish slot id number) = Owns n t slot id × Reserves (clock_of t) number.0
Acceptable n t (pin clock sample) = Observes (clock_of t) clock sample × SomePinFree t
Acceptable n t (unpin k) = PinTaken t k
