-- L.oldest_snapshot_xmin: our oldest meets upstream's contract where none of 4 to 8 is given. It is accepted then, and our
-- smallest retained xmin is upstream's (`retention-same` in Tallies.antt) where no pin is taken.
use Prim.Native.Nat.{ℕ}
use mathlib.Core.Path.{◌≡◌, refl, sym, ap}
use mathlib.Core.List.{List}
use Rattle.kinds.specs.Verdicts.{Pass}
use Rattle.model.specs.declared.Table.{Table}
use Rattle.model.specs.Answer.{Oldest}
use Rattle.model.specs.Tables.{clock_of}
use Rattle.model.specs.Tally.{minimum, oldest_of, holder_of, pin_holder_of}
use Rattle.model.specs.Calls.{oldest, refusal, change_accepted, change_of, after, answer_accepted, answer}
use Rattle.model.specs.Accepted.{Observes}
use Rattle.model.proofs.Tests.{observes}
use Rattle.model.proofs.Tally.{none_active}
use Rattle.upstream.specs.States.{state_of, state_after, Shaped, PinsFree, Foreseen}
use Rattle.upstream.specs.Clauses.{OldestSnapshotXmin, OldestRetention}
use Rattle.upstream.proofs.Pairs.{even}
use Rattle.upstream.proofs.Tallies.{retention_same}
use Rattle.upstream.proofs.Always.{well_formed_kept}
use Rattle.upstream.proofs.Runs.{observation_strict}

module _ (n : ℕ) (t : Table) (history : List ℕ) (c m : ℕ) (s : Shaped n t) (f : Foreseen (refusal n t (oldest c m))) where
  accepts : refusal n t (oldest c m) ≡ Pass
  unfolding refusal
  accepts = observation_strict (clock_of t) c m f

  pub oldest_meets : OldestSnapshotXmin n (state_of t history) (state_after n t history (oldest c m))
  unfolding refusal change_accepted change_of after
  oldest_meets =
      let seen : Observes (clock_of t) c m = observes (clock_of t) c m accepts in
      let kept = well_formed_kept n t history s (oldest c m) in
      rw accepts
      (record {
        l_oldest_e1 = rw accepts at kept;
        l_oldest_e3 = refl;
        l_oldest_e4 = refl;
        l_oldest_e5 = seen.onward;
      })

  -- upstream knows no pins: its clause on the result holds where all are free
  pub oldest_retains : PinsFree t → OldestRetention n (state_after n t history (oldest c m)) (answer n t (oldest c m))
  unfolding refusal change_accepted change_of after answer_accepted answer minimum
  oldest_retains free =
      let same = retention_same t.txids t.snapshot_xmins m (even n t s) in
      rw (accepts, none_active t.pins free)
      (record { l_oldest_e6 = (holder, ap (λ (x : ℕ). Oldest x holder) (sym (rw s.txids_size at same))) })
    where
      found : ℕ
      found = oldest_of t.txids t.snapshot_xmins m

      holder : ℕ
      holder = holder_of t.txids t.snapshot_xmins found (pin_holder_of t.pins found)
