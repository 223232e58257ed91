-- L.snapshot_locked, L.create_snapshot, L.create_transaction_snapshot: our snapshots meet upstream's contracts where none of 4
-- to 8 is given. Our tallies are upstream's (Tallies.antt); our xmax, which is held at 2^64 − 1, is upstream's, which holds
-- nothing, where no txid is from 2^64 − 1 on (`xmax-same`).
use Prim.Native.Nat.{ℕ, suc, ◌+◌, ◌-◌, ◌<◌, ◌≤◌, min, max}
use mathlib.Core.Path.{◌≡◌, refl, sym, ap, ◌∙◌}
use mathlib.Core.Bool.{Bool, true, false, cond}
use mathlib.Core.List.{List, [], ◌∷◌}
use native.Mathlib.Nat.{suc-ne-zero, le_refl}
use native.Mathlib.Decide.{ℕ_discrete}
use native.Mathlib.Omega.{arith}
use lib.Dec.{ltb}
use lib.ListN.{length, set, take}
use borrow.Author.Tests.{ltb-true, ltb-false, ne_eqb}
use Rattle.kinds.specs.Kinds.{top}
use Rattle.kinds.specs.declared.SlotNo.{SlotNo}
use Rattle.kinds.specs.declared.Txid.{Txid}
use Rattle.kinds.specs.Refusals.{told, consumed}
use Rattle.kinds.specs.Verdicts.{Verdict, Pass}
use Rattle.settled.specs.declared.Snapshot.{Snapshot}
use Rattle.model.specs.declared.Table.{Table}
use Rattle.model.specs.declared.change.SlotChange.TheVariants.{Stays, Retains}
use Rattle.model.specs.Tally.{active as ours, minimum, maximum, xmax_of, places, snapshot_of}
use Rattle.model.specs.Tables.{clock_of, sample_of}
use Rattle.model.specs.Changes.{observed}
use Rattle.model.specs.Tests.{observation_test}
use Rattle.model.specs.Accepted.{Observes}
use Rattle.model.specs.Answers.{tells_of}
use Rattle.model.specs.Calls.{snap, own, refusal, change_accepted, spent, change_of, after}
use Rattle.model.specs.Calls.{answer_accepted, answer_by, answer, shown_accepted, shown_by, shown}
use Rattle.model.proofs.Tally.{maximum_bound, active-taken, used_places}
use Rattle.model.proofs.Tests.{observes}
use Rattle.upstream.specs.States.{State, slot, at, state_of, state_after, Shaped, Foreseen}
use Rattle.upstream.specs.Relations.{TableOf, Kept, TxidsBelowTop, Coherent}
use Rattle.upstream.specs.Clauses.{SnapshotLocked, CreateSnapshot, CreateTransactionSnapshot}
use Rattle.upstream.proofs.Pairs.{pairs-length, pairs-set_xmin, slots_of, even, txid-at, shaped_applied}
use Rattle.upstream.proofs.Tallies.{active_same, minimum_same, maximum_same}
use Rattle.upstream.proofs.Always.{well_formed_kept}
use Rattle.upstream.proofs.Runs.{state_by, observation_strict, Owning, outside, other, owned, owning}

larger : (a m : ℕ) → a ≤ top → max m (min a top) ≡ cond (ltb a m) m a
larger a m h = go (ltb a m) refl
  where
    go : (b : Bool) → ltb a m ≡ b → max m (min a top) ≡ cond b m a
    go true e = let g = ltb-true a m e in omega arith
    go false e = let g = ltb-false a m e in omega arith

alone : (m : ℕ) → 0 < m → m ≡ cond (ltb (0 + 1) m) m (0 + 1)
alone m h = go (ltb (0 + 1) m) refl
  where
    go : (b : Bool) → ltb (0 + 1) m ≡ b → m ≡ cond b m (0 + 1)
    go true e = refl
    go false e = let g = ltb-false (0 + 1) m e in omega arith

pub xmax_same :
    (l : List ℕ) (m : ℕ) → 0 < m → maximum 0 l + 1 ≤ top →
    xmax_of m l ≡ cond (ltb (maximum 0 l + 1) m) m (maximum 0 l + 1)
unfolding maximum
xmax_same [] m h b = alone m h
xmax_same (x ∷ l) m h b =
    rw (ne_eqb (suc (length l)) 0 (λ e. suc-ne-zero _ e)) (larger (maximum (max 0 x) l + 1) m b)

-- a sound state whose clock is one of 64 bits has no txid from 2^64 − 1 on
pub below_top : (n : ℕ) (s : State) → TableOf n s → s.clock ≤ top → TxidsBelowTop s
below_top n s y u i = go (ℕ_discrete (at s.slots i).txid 0)
  where
    go : Dec ((at s.slots i).txid ≡ 0) → (at s.slots i).txid < top
    go (yes e) = rw e (omega arith)
    go (no d) = let b = y.txid_below i d in omega arith

-- the snapshot of a table with a sample from 1 on, as upstream wants it
pub coherent :
    (n : ℕ) (t : Table) (history : List ℕ) → Shaped n t → 0 < sample_of t →
    Coherent (state_of t history) (snapshot_of n t.txids (sample_of t))
unfolding snapshot_of
coherent n t history s h =
    record {
      in_flight = seam ∙ sym (rw long (active_same t.txids t.snapshot_xmins (even n t s)));
      in_flight_len = ap length (sym seam);
      xmax =
          λ b. rw (long, maximum_same t.txids t.snapshot_xmins (even n t s))
          (xmax_same (ours t.txids) (sample_of t) h (held b));
      xmin = sym (rw long (minimum_same t.txids t.snapshot_xmins (sample_of t) (even n t s)));
    }
  where
    long : length (slots_of t) ≡ length t.txids
    long = pairs-length t.txids t.snapshot_xmins (even n t s)

    seam : take (length (ours t.txids)) (places n (ours t.txids)) ≡ ours t.txids
    seam = used_places n (ours t.txids)

    held : TxidsBelowTop (state_of t history) → maximum 0 (ours t.txids) + 1 ≤ top
    held b =
        omega (
          arith,
          maximum_bound 0 (ours t.txids) (top - 1) (omega arith)
              (λ x e. let (i, p, z) = active-taken t.txids x e in let l = rw (txid-at n t s i) at (b i) in omega arith),
        )

-- create_snapshot promises no more than snapshot_locked
pub create_from_locked :
    (n : ℕ) (old new : State) (snapshot : Snapshot) → SnapshotLocked n old new snapshot → CreateSnapshot n old new snapshot
create_from_locked n old new snapshot r =
    record {
      l_create_snapshot_e1 = r.l_snapshot_locked_e1;
      l_create_snapshot_e3 = r.l_snapshot_locked_e2.slots;
      l_create_snapshot_e4 = r.l_snapshot_locked_e2.reservations;
      l_create_snapshot_e5 = r.l_snapshot_locked_e2.clock;
      l_create_snapshot_e6 = r.l_snapshot_locked_e3;
    }

module _ (n : ℕ) (t : Table) (history : List ℕ) (s : Shaped n t) where
  module _ (c m : ℕ) (f : Foreseen (refusal n t (snap c m))) where
    pub snapshot_locked_meets :
        SnapshotLocked n (state_of t history) (state_after n t history (snap c m)) (shown n t (snap c m))
    unfolding refusal change_accepted change_of after shown_accepted shown
    snapshot_locked_meets =
        let passes : refusal n t (snap c m) ≡ Pass = observation_strict (clock_of t) c m f in
        let seen : Observes (clock_of t) c m = observes (clock_of t) c m passes in
        let kept = well_formed_kept n t history s (snap c m) in
        rw passes
        (record {
          l_snapshot_locked_e1 = rw passes at kept;
          l_snapshot_locked_e2 =
              record {
                slots = refl;
                reservations = refl;
                clock = seen.onward;
                sample_positive = seen.positive;
                sample_within = seen.within;
              };
          l_snapshot_locked_e3 =
              coherent n _ history (shaped_applied n t s Stays (observed c m t.counters)) seen.positive;
        })

    pub create_snapshot_meets :
        CreateSnapshot n (state_of t history) (state_after n t history (snap c m)) (shown n t (snap c m))
    create_snapshot_meets = create_from_locked n _ _ _ snapshot_locked_meets

  module _ (i : SlotNo) (id : Txid) (c m : ℕ) where
    own-run :
        (v : Verdict) → Kept n (state_of t history) (state_by v t history (own i id c m)) →
        Owning n t i id (own i id c m) v →
        CreateTransactionSnapshot n (state_of t history) (state_by v t history (own i id c m)) i id
        (tells_of (answer_by v t (own i id c m))) (shown_by v n t (own i id c m))
    unfolding change_accepted consumed spent answer_accepted shown_accepted tells_of told snapshot_of
    own-run v kept (outside h) =
        record {
          l_own_e1 = kept;
          l_own_e3 = refl;
          l_own_e4 = le_refl _;
          l_own_e5 = λ e. absurd (suc-ne-zero _ e);
          l_own_e6 = λ e. refl;
          l_own_e7 = λ g e. absurd (omega arith);
        }
    own-run v kept (other h d) =
        record {
          l_own_e1 = kept;
          l_own_e3 = refl;
          l_own_e4 = le_refl _;
          l_own_e5 = λ e. absurd (suc-ne-zero _ e);
          l_own_e6 = λ e. refl;
          l_own_e7 = λ g e. absurd (d (sym (txid-at n t s i.0) ∙ e));
        }
    own-run v kept (owned (o, f)) =
        let xmin = minimum m (ours t.txids) in
        record {
          l_own_e1 = kept;
          l_own_e3 = refl;
          l_own_e4 = f.onward;
          l_own_e5 =
              λ e. record {
                l_own_e5a = o.inside;
                l_own_e5b = txid-at n t s i.0 ∙ o.registered.holds;
                l_own_e5c = coherent n _ history (shaped_applied n t s (Retains i xmin) (observed c m t.counters)) f.positive;
                l-own-e5d =
                    pairs-set_xmin t.txids t.snapshot_xmins i.0 xmin
                    ∙ ap (λ (x : ℕ). set (slots_of t) i.0 (slot x xmin)) (sym (txid-at n t s i.0));
              };
          l_own_e6 = λ e. absurd (e refl);
          l_own_e7 = λ g e. refl;
        }

    pub create_transaction_snapshot_meets :
        Foreseen (refusal n t (own i id c m)) →
        CreateTransactionSnapshot n (state_of t history) (state_after n t history (own i id c m)) i id
        (tells_of (answer n t (own i id c m))) (shown n t (own i id c m))
    unfolding refusal change_of after answer shown
    create_transaction_snapshot_meets f =
        own-run (refusal n t (own i id c m)) (well_formed_kept n t history s (own i id c m))
        (owning n t i id (own i id c m) (observation_test (clock_of t) c m) (observation_strict (clock_of t) c m) refl f)
