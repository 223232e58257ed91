-- I's calls of an owner after its wait: after an accepted one our transaction snapshot and end meet their clauses. The owner's slot is
-- as it was (`slot_kept`), so the end is accepted, and the snapshot is but for 7 and 8; L's clauses on them give the rest.
use Prim.Native.Nat.{ℕ, zero, suc, ◌<◌}
use native.Mathlib.Omega.{arith}
use mathlib.Core.Path.{◌≡◌, refl, sym, ap, ◌∙◌}
use mathlib.Core.List.{List}
use lib.ListN.{length, set, length-set}
use Rattle.kinds.specs.declared.SlotNo.{SlotNo}
use Rattle.kinds.specs.declared.Txid.{Txid}
use Rattle.kinds.specs.Verdicts.{Pass}
use Rattle.settled.specs.declared.Snapshot.{Snapshot}
use Rattle.model.specs.declared.Table.{Table}
use Rattle.model.specs.Tables.{clock_of}
use Rattle.model.specs.Answers.{tells_of}
use Rattle.model.specs.Calls.{end, own, refusal, answer_accepted, answer, shown}
use Rattle.model.proofs.Tests.{owns}
use Rattle.upstream.specs.States.{State, Slot, slot, at, state_of, state_after, Foreseen}
use Rattle.upstream.specs.Tallies.{active}
use Rattle.upstream.specs.Clauses.{EndTransaction, OwnOk}
use Rattle.upstream.proofs.Yes.{from_yes}
use Rattle.upstream.proofs.Pairs.{slots_of, txid-at, slots_length}
use Rattle.upstream.proofs.Runs.{observation_strict}
use Rattle.upstream.proofs.End.{end_meets}
use Rattle.upstream.proofs.Snapshots.{create_transaction_snapshot_meets}
use Rattle.wait_rules.specs.Owner.{Owner, Holds}
use Rattle.wait.specs.Waits.{wait_of}
use Rattle.wait.proofs.Waits.{heard, owner_unharmed}
use Rattle.interference.specs.Interference.{LiveOwner, history_told}
use Rattle.interference.specs.AfterWait.{SnapshotAfterWait, EndAfterWait}
use Rattle.interference.proofs.Formed.{Stored, here, other, stored}
use Rattle.interference.proofs.Onward.{slot_kept, owner-stays_live}
use Rattle.interference.proofs.AfterWait.{over, shaped, formed, formed_after, goes_on_after}

-- who is active is read off the txids alone
active_alike : (a b : List Slot) (k : ℕ) → ((i : ℕ) → (at a i).txid ≡ (at b i).txid) → active a k ≡ active b k
unfolding active
active_alike a b zero e = refl
active_alike a b (suc k) e = rw (e k, active_alike a b k e)

same_txids : (slots : List Slot) (i xmin : ℕ) → i < length slots → (j : ℕ)
    → (at (set slots i (slot (at slots i).txid xmin)) j).txid ≡ (at slots j).txid
same_txids slots i xmin h j = go (stored slots i (slot (at slots i).txid xmin) j h)
  where
    go : Stored slots i (slot (at slots i).txid xmin) j → (at (set slots i (slot (at slots i).txid xmin)) j).txid ≡ (at slots j).txid
    go (here e w) = rw w (ap (λ (k : ℕ). (at slots k).txid) (sym e))
    go (other d w) = ap (λ (x : Slot). x.txid) w

-- an accepted end, and an accepted transaction snapshot, are told by 0
end_done : (n : ℕ) (t : Table) (i : SlotNo) (id : Txid) → refusal n t (end i id) ≡ Pass → (tells_of (answer n t (end i id))).number ≡ 0
unfolding answer answer_accepted tells_of
end_done n t i id p = rw p

own_done : (n : ℕ) (t : Table) (i : SlotNo) (id : Txid) (c m : ℕ) → refusal n t (own i id c m) ≡ Pass
    → (tells_of (answer n t (own i id c m))).number ≡ 0
unfolding answer answer_accepted tells_of
own_done n t i id c m p = rw p

module _ (n : ℕ) (t : Table) (mine : SlotNo) (id : Txid) (s h : List ℕ) (q : (wait_of n t (Holds mine id) s).verdict ≡ Pass) where
  abbrev owner : Owner
  owner = Holds mine id

  abbrev v : Table
  v = (wait_of n t owner s).table

  abbrev before : State
  before = state_of t h

  abbrev waited : State
  waited = state_of v (history_told h s)

  kept : at waited.slots mine.0 ≡ at before.slots mine.0
  kept = let o = over n t owner s h q in slot_kept mine id before waited o.events o.trace

  live : LiveOwner waited mine.0 id.0
  live =
      let o = over n t owner s h q in
      let holds = owns n t mine id (heard n t owner s q).holder in
      let first = (from_yes n t (heard n t owner s q).entry).shape in
      owner-stays_live mine id before waited o.events o.trace
      (record {
        positive = omega (arith, holds.registered.not_zero);
        inside = omega (arith, slots_length n t first, holds.inside);
        holds = txid-at n t first mine.0 ∙ holds.registered.holds;
      })

  pub end-after_wait_meets :
      EndAfterWait n before waited (state_after n v (history_told h s) (end mine id)) mine.0 (tells_of (answer n v (end mine id)))
  end-after_wait_meets =
      record {
        i_end_wait_e1 = accepted;
        i_end_wait_e2 = formed_after n t owner s h q (end mine id);
        i_end_wait_e4 = formed n t owner s h q;
        i_end_wait_e7 = goes_on_after n t owner s h q (end mine id);
        i_end_wait_e8 = kept;
        i_end_wait_e9 = (b.l_end_e6 accepted).l_end_e6c;
      }
    where
      passes : refusal n v (end mine id) ≡ Pass
      passes = (owner_unharmed n t mine id s q).end_accepted

      accepted : (tells_of (answer n v (end mine id))).number ≡ 0
      accepted = end_done n v mine id passes

      b : EndTransaction n waited (state_after n v (history_told h s) (end mine id)) mine id (tells_of (answer n v (end mine id)))
      b = end_meets n v (history_told h s) mine id (shaped n t owner s h q) (rw passes (omega arith))

  pub snapshot_after_wait_meets : (c m : ℕ) → Foreseen (refusal n v (own mine id c m))
      → SnapshotAfterWait n before waited (state_after n v (history_told h s) (own mine id c m)) mine.0 id.0
      (tells_of (answer n v (own mine id c m))) (shown n v (own mine id c m))
  snapshot_after_wait_meets c m f =
      record {
        i_own_wait_e1 = accepted;
        i_own_wait_e2 = formed_after n t owner s h q (own mine id c m);
        i_own_wait_e4 = formed n t owner s h q;
        i_own_wait_e6 =
            rw o.l-own-e5d
            (record {
              positive = live.positive;
              inside = omega (arith, length-set (slots_of v) mine.0 (slot (at (slots_of v) mine.0).txid seen.xmin), live.inside);
              holds = same_txids (slots_of v) mine.0 seen.xmin live.inside mine.0 ∙ live.holds;
            });
        i_own_wait_e8 = goes_on_after n t owner s h q (own mine id c m);
        i_own_wait_e9 = kept;
        i_own_wait_e10a = o.l_own_e5c;
        i_own_wait_e10b = o.l_own_e5c.in_flight ∙ listed;
        i_own_wait_e10c = o.l-own-e5d;
      }
    where
      new : State
      new = state_after n v (history_told h s) (own mine id c m)

      seen : Snapshot
      seen = shown n v (own mine id c m)

      passes : refusal n v (own mine id c m) ≡ Pass
      passes =
          let tested = (owner_unharmed n t mine id s q).own_tested c m in
          tested ∙ observation_strict (clock_of v) c m (rw tested at f)

      accepted : (tells_of (answer n v (own mine id c m))).number ≡ 0
      accepted = own_done n v mine id c m passes

      o : OwnOk n waited new mine id seen
      o = (create_transaction_snapshot_meets n v (history_told h s) (shaped n t owner s h q) mine id c m f).l_own_e5 accepted

      listed : active new.slots (length new.slots) ≡ active (slots_of v) (length (slots_of v))
      listed =
          rw (o.l-own-e5d, length-set (slots_of v) mine.0 (slot (at (slots_of v) mine.0).txid seen.xmin))
          (active_alike _ _ (length (slots_of v)) (same_txids (slots_of v) mine.0 seen.xmin live.inside))
