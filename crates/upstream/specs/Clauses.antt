-- The ensures of upstream's nine functions, by the ids of docs/CONTRACTS.md. The flag is left out.
-- A result is told by its number, 0 for Ok and 1 to 3 for upstream's errors, and by what it carries. A clause that needs
-- a part of well_formed asks for it in its field: E1 for the part that it keeps, finish's E3 for the history, its E5 for the table.
use Rattle.std.specs.Prelude.{ℕ, ◌+◌, ◌<◌, ◌≤◌, ◌≡◌, ◌≢◌, cond, eqb, leb, length, set}
use Rattle.kinds.specs.declared.SlotNo.{SlotNo}
use Rattle.kinds.specs.declared.Txid.{Txid}
use Rattle.kinds.specs.declared.refusal.Refusal.{Refusal}
use Rattle.kinds.specs.declared.refusal.Refusal.TheVariants.{InvalidSlot, SlotOwnershipMismatch}
use Rattle.kinds.specs.Kinds.{txid}
use Rattle.kinds.specs.declared.told.Told.{Told}
use Rattle.kinds.specs.Refusals.{told, accepted}
use Rattle.kinds.specs.Verdicts.{Verdict, Pass, Refuse}
use Rattle.settled.specs.declared.Snapshot.{Snapshot}
use Rattle.model.specs.Answer.{Answer, Oldest}
use Rattle.upstream.specs.States.{State, slot, at, push}
use Rattle.upstream.specs.Tallies.{minimum_retention}
use Rattle.upstream.specs.Relations.{Contains, TableOf, HistoryOf, Kept, Coherent, Observation, Reservation}

-- L:153-155, but for the value of an accepted slot, which a verdict does not carry
pub record CheckedSlot (n : ℕ) (given : SlotNo) (result : Verdict) : Type 0 where
  pub l_checked_slot_e1 : result ≡ Pass → given.0 < n
  pub l_checked_slot_e2 : (r : Refusal) → result ≡ Refuse r → n ≤ given.0

-- L:171-178
pub record BeginOk (n : ℕ) (old new : State) (result : Told) : Type 0 where
  pub l_begin_e5a : result.slot < n
  pub l_begin_e5b : old.clock ≤ result.id
  pub l_begin_e5c : new.reservations ≡ push old.reservations result.id
  pub l_begin_e5d : (at old.slots result.slot).txid ≡ 0
  pub l_begin_e5e : new.slots ≡ set old.slots result.slot (slot result.id result.id)

-- L:179-186
pub record BeginErr (old new : State) (result : Told) : Type 0 where
  pub l_begin_e6a : new.slots ≡ old.slots
  pub l_begin_e6b : (i : ℕ) → i < length old.slots → (at old.slots i).txid ≢ 0
  pub l_begin_e7a : old.clock ≤ result.id
  pub l_begin_e7b : new.reservations ≡ push old.reservations result.id
  pub l_begin_e7c : result.number ≡ 1

pub record BeginTransaction (n : ℕ) (old new : State) (result : Told) : Type 0 where
  pub l_begin_e1 : Kept n old new
  pub l_begin_e3 : old.clock < new.clock
  pub l_begin_e4 : length new.reservations ≡ length old.reservations + 1
  pub l_begin_e5 : result.number ≡ 0 → BeginOk n old new result
  pub l_begin_e67 : result.number ≢ 0 → BeginErr old new result

-- what I:547 adds, on the refusal too
pub record BeginAcquired (old new : State) (result : Told) : Type 0 where
  pub i_begin_e1 : new.sampled_clock ≡ old.sampled_clock
  pub i_begin_e2 : new.clock ≡ result.id + 1

-- L:224-227
pub record EndOk (n : ℕ) (old new : State) (given : SlotNo) (id : Txid) : Type 0 where
  pub l_end_e6a : given.0 < n
  pub l_end_e6b : (at old.slots given.0).txid ≡ id.0
  pub l_end_e6c : new.slots ≡ set old.slots given.0 (slot 0 0)

-- L:229-235
abbrev pub end_result : ℕ → State → SlotNo → Txid → Told
end_result n old given id =
    cond (leb n given.0) (told (InvalidSlot given))
    (cond (eqb (at old.slots given.0).txid id.0) accepted
    (told (SlotOwnershipMismatch given id (txid (at old.slots given.0).txid))))

pub record EndTransaction (n : ℕ) (old new : State) (given : SlotNo) (id : Txid) (result : Told) : Type 0 where
  pub l_end_e1 : Kept n old new
  pub l_end_e3 : new.clock ≡ old.clock
  pub l_end_e4 : new.sampled_clock ≡ old.sampled_clock
  pub l_end_e5 : new.reservations ≡ old.reservations
  pub l_end_e6 : result.number ≡ 0 → EndOk n old new given id
  pub l_end_e7 : result.number ≢ 0 → new.slots ≡ old.slots
  pub l_end_e8 : result ≡ end_result n old given id

-- L:260-261
pub record SnapshotLocked (n : ℕ) (old new : State) (snapshot : Snapshot) : Type 0 where
  pub l_snapshot_locked_e1 : Kept n old new
  pub l_snapshot_locked_e2 : Observation old new
  pub l_snapshot_locked_e3 : Coherent new snapshot

-- L:307-311
pub record CreateSnapshot (n : ℕ) (old new : State) (snapshot : Snapshot) : Type 0 where
  pub l_create_snapshot_e1 : Kept n old new
  pub l_create_snapshot_e3 : new.slots ≡ old.slots
  pub l_create_snapshot_e4 : new.reservations ≡ old.reservations
  pub l_create_snapshot_e5 : old.clock ≤ new.clock
  pub l_create_snapshot_e6 : Coherent new snapshot

-- L:323-330
pub record OwnOk (n : ℕ) (old new : State) (given : SlotNo) (id : Txid) (snapshot : Snapshot) : Type 0 where
  pub l_own_e5a : given.0 < n
  pub l_own_e5b : (at old.slots given.0).txid ≡ id.0
  pub l_own_e5c : Coherent new snapshot
  pub l-own-e5d :
      new.slots ≡ set old.slots given.0 (slot (at old.slots given.0).txid snapshot.xmin)

-- L:320-333; E7 is both ways, and the other way is E5 a and b
pub record CreateTransactionSnapshot
    (n : ℕ) (old new : State) (given : SlotNo) (id : Txid) (result : Told) (snapshot : Snapshot) : Type 0 where
  pub l_own_e1 : Kept n old new
  pub l_own_e3 : new.reservations ≡ old.reservations
  pub l_own_e4 : old.clock ≤ new.clock
  pub l_own_e5 : result.number ≡ 0 → OwnOk n old new given id snapshot
  pub l_own_e6 : result.number ≢ 0 → new.slots ≡ old.slots
  pub l_own_e7 : given.0 < n → (at old.slots given.0).txid ≡ id.0 → result.number ≡ 0

-- L:351-354
pub record OldestSnapshotXmin (n : ℕ) (old new : State) : Type 0 where
  pub l_oldest_e1 : Kept n old new
  pub l_oldest_e3 : new.slots ≡ old.slots
  pub l_oldest_e4 : new.reservations ≡ old.reservations
  pub l_oldest_e5 : old.clock ≤ new.clock

-- L:355; who holds it is not upstream's
pub record OldestRetention (n : ℕ) (new : State) (result : Answer) : Type 0 where
  pub l_oldest_e6 : (holder : ℕ) × (result ≡ Oldest (minimum_retention new.slots n new.sampled_clock) holder)

-- L:385
pub record ReservePublicationClock (n : ℕ) (old new : State) (result : Told) : Type 0 where
  pub l_stamp_e1 : Kept n old new
  pub l_stamp_e2 : Reservation old new result.id

-- L:402-405
pub record FinishOk (n : ℕ) (old new : State) (id : Txid) (result : Told) : Type 0 where
  pub l_finish_e3 : HistoryOf old → (reader : ℕ) → Contains old.reservations reader → reader < result.id
  pub l_finish_e4 : new.reservations ≡ push old.reservations result.id
  pub l_finish_e5 : TableOf n old → (i : ℕ) → i < length new.slots → (at new.slots i).txid ≢ id.0

-- L:401-406
pub record DeregisterThenReserve (n : ℕ) (old new : State) (id : Txid) (result : Told) : Type 0 where
  pub l_finish_e1 : Kept n old new
  pub l_finish_e345 : result.number ≡ 0 → FinishOk n old new id result
  pub l_finish_e6 : result.number ≢ 0 → new.reservations ≡ old.reservations
