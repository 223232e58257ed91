-- The ensures of upstream's calls after a wait (I:713-771), by the ids of docs/CONTRACTS.md: entry is the state when the wait began,
-- acquired the one at its end, new the one after the call. The flag, the token and the identity are left out. Where a clause says
-- well_formed, what it says of slots and clocks comes from the check of the entry table; its history is asked to fit the entry.
use Rattle.std.specs.Prelude.{ℕ, ◌≤◌, ◌≡◌, length, set, take}
use Rattle.kinds.specs.declared.told.Told.{Told}
use Rattle.settled.specs.declared.Snapshot.{Snapshot}
use Rattle.upstream.specs.States.{State, slot, at, push}
use Rattle.upstream.specs.Tallies.{active}
use Rattle.upstream.specs.Relations.{HistoryOf, WellFormed, Coherent}
use Rattle.interference.specs.Interference.{LiveOwner, Extends}

-- I:723-727, where a begin is accepted
pub record BegunAfterWait (acquired new : State) (result : Told) : Type 0 where
  pub i_begin_wait_e9a : LiveOwner new result.slot result.id
  pub i_begin_wait_e9c : (at acquired.slots result.slot).txid ≡ 0
  pub i_begin_wait_e9d : acquired.clock ≤ result.id
  pub i_begin_wait_e9e : new.reservations ≡ push acquired.reservations result.id

-- I:717-727
pub record BeginAfterWait (n : ℕ) (entry acquired new : State) (result : Told) : Type 0 where
  pub i_begin_wait_e1 : HistoryOf entry → WellFormed n new
  pub i_begin_wait_e4 : HistoryOf entry → WellFormed n acquired
  pub i_begin_wait_e6 : Extends entry.reservations acquired.reservations
  pub i_begin_wait_e7 : Extends entry.reservations new.reservations
  pub i_begin_wait_e9 : result.number ≡ 0 → BegunAfterWait acquired new result

-- I:741-749, of the owner's slot i and its id
pub record SnapshotAfterWait (n : ℕ) (entry acquired new : State) (i id : ℕ) (result : Told) (snapshot : Snapshot) : Type 0 where
  pub i_own_wait_e1 : result.number ≡ 0
  pub i_own_wait_e2 : HistoryOf entry → WellFormed n new
  pub i_own_wait_e4 : HistoryOf entry → WellFormed n acquired
  pub i_own_wait_e6 : LiveOwner new i id
  pub i_own_wait_e8 : Extends entry.reservations new.reservations
  pub i_own_wait_e9 : at acquired.slots i ≡ at entry.slots i
  pub i_own_wait_e10a : Coherent new snapshot
  pub i_own_wait_e10b : take snapshot.count snapshot.ids ≡ active acquired.slots (length acquired.slots)
  pub i_own_wait_e10c : new.slots ≡ set acquired.slots i (slot (at acquired.slots i).txid snapshot.xmin)

-- I:762-767, of the owner's slot i
pub record EndAfterWait (n : ℕ) (entry acquired new : State) (i : ℕ) (result : Told) : Type 0 where
  pub i_end_wait_e1 : result.number ≡ 0
  pub i_end_wait_e2 : HistoryOf entry → WellFormed n new
  pub i_end_wait_e4 : HistoryOf entry → WellFormed n acquired
  pub i_end_wait_e7 : Extends entry.reservations new.reservations
  pub i_end_wait_e8 : at acquired.slots i ≡ at entry.slots i
  pub i_end_wait_e9 : new.slots ≡ set acquired.slots i (slot 0 0)
