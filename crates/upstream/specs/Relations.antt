-- Upstream's predicates (L:41-54, L:88-106), atom by atom.
use Rattle.std.specs.Prelude.{ℕ, ◌+◌, ◌<◌, ◌≤◌, ◌≡◌, ◌≢◌, List, [], cond, ltb, length, get_or, take}
use Rattle.kinds.specs.Kinds.{top}
use Rattle.settled.specs.declared.Snapshot.{Snapshot}
use Rattle.model.specs.declared.Table.{Table}
use Rattle.upstream.specs.States.{Slot, State, at, push, state_of, Shaped}
use Rattle.upstream.specs.Tallies.{active, minimum_active, maximum_active}

-- `contains`: x stands at some place of the list
pub record Contains (ids : List ℕ) (x : ℕ) : Type 0 where
  pub place : ℕ
  pub inside : place < length ids
  pub there : get_or ids place 0 ≡ x

-- `well_formed`, what it says of slots and clocks. Past the last slot stands an empty one, of which all of it holds, so no
-- index needs a bound
pub record TablePart (n : ℕ) (slots : List Slot) (clock sample : ℕ) : Type 0 where
  pub size : length slots ≡ n
  pub sample_positive : 0 < sample
  pub sample_within : sample ≤ clock
  pub empty_xmin : (i : ℕ) → (at slots i).txid ≡ 0 → (at slots i).snapshot_xmin ≡ 0
  pub xmin_positive : (i : ℕ) → (at slots i).txid ≢ 0 → 0 < (at slots i).snapshot_xmin
  pub xmin_within : (i : ℕ) → (at slots i).txid ≢ 0 → (at slots i).snapshot_xmin ≤ (at slots i).txid
  pub txid_below : (i : ℕ) → (at slots i).txid ≢ 0 → (at slots i).txid < clock
  pub distinct : (i j : ℕ) → i < j → (at slots i).txid ≢ 0 → (at slots i).txid ≢ (at slots j).txid

-- `well_formed`, what it says of the history
pub record HistoryPart (slots : List Slot) (clock : ℕ) (ids : List ℕ) : Type 0 where
  pub ordered : (i j : ℕ) → i < j → j < length ids → get_or ids i 0 < get_or ids j 0
  pub positive : (i : ℕ) → i < length ids → 0 < get_or ids i 0
  pub below : (i : ℕ) → i < length ids → get_or ids i 0 < clock
  pub registered : (i : ℕ) → (at slots i).txid ≢ 0 → Contains ids (at slots i).txid

abbrev pub TableOf : ℕ → State → Type 0
TableOf n s = TablePart n s.slots s.clock s.sampled_clock

abbrev pub HistoryOf : State → Type 0
HistoryOf s = HistoryPart s.slots s.clock s.reservations

pub record WellFormed (n : ℕ) (s : State) : Type 0 where
  pub table : TableOf n s
  pub history : HistoryOf s

-- E1 of L's functions: well_formed is kept, each of its parts by itself
pub record Kept (n : ℕ) (old new : State) : Type 0 where
  pub table : TableOf n old → TableOf n new
  pub history : HistoryOf old → HistoryOf new

-- what a yes of the table check gives: the shape, and well_formed but for the history
pub record Sound (n : ℕ) (t : Table) : Type 0 where
  pub shape : Shaped n t
  pub table : TableOf n (state_of t [])

-- no txid from 2^64 − 1 on, so that the largest plus 1 is a number of 64 bits
abbrev pub TxidsBelowTop : State → Type 0
TxidsBelowTop s = (i : ℕ) → (at s.slots i).txid < top

-- `coherent_snapshot`: in_flight is the first count places of ours. Upstream's xmax adds 1 and holds nothing, ours is held at
-- 2^64 − 1: that atom alone has a condition
pub record Coherent (s : State) (snapshot : Snapshot) : Type 0 where
  pub in_flight : take snapshot.count snapshot.ids ≡ active s.slots (length s.slots)
  pub in_flight_len : snapshot.count ≡ length (take snapshot.count snapshot.ids)
  pub xmax :
      TxidsBelowTop s →
      snapshot.xmax
      ≡ cond (ltb (maximum_active s.slots (length s.slots) + 1) s.sampled_clock) s.sampled_clock
      (maximum_active s.slots (length s.slots) + 1)
  pub xmin : snapshot.xmin ≡ minimum_active s.slots (length s.slots) s.sampled_clock

pub record Observation (before after : State) : Type 0 where
  pub slots : after.slots ≡ before.slots
  pub reservations : after.reservations ≡ before.reservations
  pub clock : before.clock ≤ after.clock
  pub sample_positive : 0 < after.sampled_clock
  pub sample_within : after.sampled_clock ≤ after.clock

pub record Reservation (before after : State) (id : ℕ) : Type 0 where
  pub from_clock : before.clock ≤ id
  pub below_top : id < top
  pub clock : after.clock ≡ id + 1
  pub reservations : after.reservations ≡ push before.reservations id
  pub slots : after.slots ≡ before.slots
  pub sample : after.sampled_clock ≡ before.sampled_clock
