-- Wrong bodies that upstream's contracts accept: each of them meets every clause. (`wrong-kind` in Checked.antt is one more.)
-- Three do what our own calls do when they are given sample 1, or another clock: that upstream's clauses hold is then the
-- theorem about our call. For the other tables well_formed is shown as in Always.antt, by the table check at line 1.
use Prim.Native.Nat.{ℕ, ◌+◌, ◌<◌, ◌≤◌}
use mathlib.Core.Path.{◌≡◌, refl, sym, ◌∙◌}
use mathlib.Core.Logic.{◌≢◌}
use mathlib.Core.List.{List, [], ◌∷◌}
use native.Mathlib.Nat.{le_refl, suc-ne-zero}
use native.Mathlib.Omega.{arith}
use Rattle.kinds.specs.declared.SlotNo.{SlotNo}
use Rattle.kinds.specs.declared.Txid.{Txid}
use Rattle.kinds.specs.declared.refusal.Refusal.TheVariants.{NoFreeSlot}
use Rattle.kinds.specs.declared.told.Told.{Told}
use Rattle.kinds.specs.Kinds.{slot, txid}
use Rattle.kinds.specs.Refusals.{told}
use Rattle.settled.specs.declared.Snapshot.{Snapshot}
use Rattle.model.specs.declared.Table.{Table}
use Rattle.model.specs.declared.change.SlotChange.TheVariants.{Stays, Enters}
use Rattle.model.specs.Tables.{counted, fresh_table, txid_at, clock_of, line_of}
use Rattle.model.specs.Changes.{change, applied}
use Rattle.model.specs.Answers.{accepted_with}
use Rattle.model.specs.Calls.{snap, oldest, answer, shown}
use Rattle.model.specs.Accepted.{Reserves, Observes}
use Rattle.model.specs.Facts.{Good}
use Rattle.model.proofs.Places.{Stored, new_here, as_before, stored, zeros_hold}
use Rattle.model.proofs.Moves.{CountersFit, good-applied, good-fresh}
use Rattle.upstream.specs.States.{at, push, state_of, state_after, Shaped, PinsFree}
use Rattle.upstream.specs.Relations.{Contains, TableOf, HistoryOf, Kept}
use Rattle.upstream.specs.Clauses.{BeginTransaction, SnapshotLocked, CreateTransactionSnapshot}
use Rattle.upstream.specs.Clauses.{OldestSnapshotXmin, OldestRetention, DeregisterThenReserve}
use Rattle.upstream.proofs.Pairs.{pairs_set, slots_of, txid-at, shaped_applied}
use Rattle.upstream.proofs.Yes.{from-good, beside, unpinned, to_good}
use Rattle.upstream.proofs.Histories.{length_push, contains_pushes, contains_last, history_push}
use Rattle.upstream.proofs.Foreseen.{asked_foreseen}
use Rattle.upstream.proofs.Snapshots.{snapshot_locked_meets}
use Rattle.upstream.proofs.Oldest.{oldest_meets, oldest_retains}
use Rattle.upstream.proofs.Publish.{above}

-- an error that says of a begin that no slot is free
abbrev none_free : Told
none_free = told (NoFreeSlot (txid 0))

-- sample 1 and line 1 fit every clock from 1 on
ones_fit : (t : Table) (c : ℕ) → clock_of t ≤ c → 1 ≤ c → CountersFit t (counted c 1 1)
ones_fit t c h p =
    record {
      onward = h;
      sample_from_1 = le_refl 1;
      sample_to_clock = p;
      line_from_1 = le_refl 1;
      line_to_clock = p;
      under = λ i z. omega arith;
      under_pin = λ i z. omega arith;
    }

-- slot i becomes (k, k), and the sample 1
abbrev pub entered : Table → ℕ → ℕ → Table
entered t i k = applied t (change (Enters (slot i) (txid k)) (counted (k + 1) 1 (line_of t)))

-- all slots are emptied, and the sample is 1
abbrev pub emptied : ℕ → ℕ → Table
emptied n k = applied (fresh_table n) (change Stays (counted (k + 1) 1 1))

module _ (n : ℕ) (t : Table) (history : List ℕ) (s : Shaped n t) where
  entered-kept :
      (i k : ℕ) → Reserves (clock_of t) k → Kept n (state_of t history) (state_of (entered t i k) (push history k))
  entered-kept i k f =
      record {
        table = λ y. (from-good n _ (good y)).table;
        history =
            λ p. history_push (slots_of t) (slots_of (entered t i k)) (clock_of t) (k + 1) history p k f.positive
            f.from_clock (λ j z. had p j z (stored 0 t.txids i k j));
      }
    where
      good :
          TableOf n (state_of t history) →
          Good n (applied (unpinned t) (change (Enters (slot i) (txid k)) (counted (k + 1) 1 1)))
      good y =
          good-applied n (unpinned t) (counted (k + 1) 1 1) (to_good n t (record { shape = s; table = y }))
          (ones_fit (unpinned t) (k + 1) (omega (arith, f.from_clock)) (omega arith)) (Enters (slot i) (txid k))
          (record { positive = f.positive; new = f.from_clock; past = omega arith; over = f.positive })

      held : (j : ℕ) → (at (slots_of (entered t i k)) j).txid ≡ txid_at (entered t i k) j
      held j = txid-at n (entered t i k) (shaped_applied n t s (Enters (slot i) (txid k)) (counted (k + 1) 1 (line_of t))) j

      had :
          HistoryOf (state_of t history) → (j : ℕ) → (at (slots_of (entered t i k)) j).txid ≢ 0 → Stored 0 t.txids i k j →
          Contains (push history k) (at (slots_of (entered t i k)) j).txid
      had p j z (new_here e l q) = rw (held j, q) (contains_last history k)
      had p j z (as_before d q) =
          let same : (at (slots_of (entered t i k)) j).txid ≡ (at (slots_of t) j).txid = held j ∙ q ∙ sym (txid-at n t s j) in
          rw same (contains_pushes history (k ∷ []) _ (p.registered j (rw same at z)))

  -- begin: any empty slot i, the highest too, and the sample set to 1
  pub any_slot_sample_one :
      (i k : ℕ) → Reserves (clock_of t) k → i < n → txid_at t i ≡ 0 →
      BeginTransaction n (state_of t history) (state_of (entered t i k) (push history k)) (accepted_with i k)
  any_slot_sample_one i k f h e =
      record {
        l_begin_e1 = entered-kept i k f;
        l_begin_e3 = omega (arith, f.from_clock);
        l_begin_e4 = length_push history k;
        l_begin_e5 =
            λ z. record {
              l_begin_e5a = h;
              l_begin_e5b = f.from_clock;
              l_begin_e5c = refl;
              l_begin_e5d = txid-at n t s i ∙ e;
              l_begin_e5e = pairs_set t.txids t.snapshot_xmins i k k;
            };
        l_begin_e67 = λ z. absurd (z refl);
      }

  -- the snapshots and the oldest: sample 1 for ever, whatever was given, and any clock from the table's on
  one : (c : ℕ) → clock_of t ≤ c → 1 ≤ c → Observes (clock_of t) c 1
  one c h p = record { onward = h; positive = le_refl 1; within = p }

  pub always_sample_one :
      (c : ℕ) → clock_of t ≤ c → 1 ≤ c →
      SnapshotLocked n (state_of t history) (state_after n t history (snap c 1)) (shown n t (snap c 1))
  always_sample_one c h p = snapshot_locked_meets n t history s c 1 (asked_foreseen n t (snap c 1) (one c h p))

  pub always_oldest-one :
      (c : ℕ) → clock_of t ≤ c → 1 ≤ c →
      OldestSnapshotXmin n (state_of t history) (state_after n t history (oldest c 1))
      × (PinsFree t → OldestRetention n (state_after n t history (oldest c 1)) (answer n t (oldest c 1)))
  always_oldest-one c h p =
      let f = asked_foreseen n t (oldest c 1) (one c h p) in
      (oldest_meets n t history c 1 s f, oldest_retains n t history c 1 s f)

  -- the transaction snapshot: a refusal that moves clock and sample as a plain snapshot does, and is called NoFreeSlot
  pub refused_moves_clock :
      (i : SlotNo) (id : Txid) (c m : ℕ) (x : Snapshot) → Observes (clock_of t) c m → txid_at t i.0 ≢ id.0 →
      CreateTransactionSnapshot n (state_of t history) (state_after n t history (snap c m)) i id none_free x
  unfolding told
  refused_moves_clock i id c m x f d =
      let r = snapshot_locked_meets n t history s c m (asked_foreseen n t (snap c m) f) in
      record {
        l_own_e1 = r.l_snapshot_locked_e1;
        l_own_e3 = r.l_snapshot_locked_e2.reservations;
        l_own_e4 = r.l_snapshot_locked_e2.clock;
        l_own_e5 = λ e. absurd (suc-ne-zero _ e);
        l_own_e6 = λ e. r.l_snapshot_locked_e2.slots;
        l_own_e7 = λ h e. absurd (d (sym (txid-at n t s i.0) ∙ e));
      }

  -- finish: refuses always
  pub refuses_always : (id : Txid) → DeregisterThenReserve n (state_of t history) (state_of t history) id none_free
  unfolding told
  refuses_always id =
      record {
        l_finish_e1 = record { table = λ y. y; history = λ p. p };
        l_finish_e345 = λ e. absurd (suc-ne-zero _ e);
        l_finish_e6 = λ e. refl;
      }

  -- finish: empties every slot, and sets the sample to 1
  pub empties_all :
      (id : Txid) (k : ℕ) → id.0 ≢ 0 → Reserves (clock_of t) k →
      DeregisterThenReserve n (state_of t history) (state_of (emptied n k) (push history k)) id (accepted_with 0 k)
  unfolding fresh_table
  empties_all id k z f =
      record {
        l_finish_e1 =
            record {
              table = λ y. (from-good n (emptied n k) good).table;
              history =
                  λ p. history_push (slots_of t) (slots_of (emptied n k)) (clock_of t) (k + 1) history p k f.positive
                  f.from_clock (λ j d. absurd (d (empty j)));
            };
        l_finish_e345 =
            λ e. record {
              l_finish_e3 = λ p reader c. above t history k reader f p c;
              l_finish_e4 = refl;
              l_finish_e5 = λ y j b q. z (sym q ∙ empty j);
            };
        l_finish_e6 = λ e. absurd (e refl);
      }
    where
      good : Good n (emptied n k)
      good =
          good-applied n (fresh_table n) (counted (k + 1) 1 1) (good-fresh n)
          (ones_fit (fresh_table n) (k + 1) (omega arith) (omega arith)) Stays tt

      empty : (j : ℕ) → (at (slots_of (emptied n k)) j).txid ≡ 0
      empty j = txid-at n (emptied n k) (from-good n (emptied n k) good).shape j ∙ zeros_hold n j

  -- any call: moves the vacuum line and the pins, which no clause of upstream's sees
  pub line_unseen : (pins : List ℕ) (line : ℕ) → state_of (beside pins line t) history ≡ state_of t history
  line_unseen pins line = refl
