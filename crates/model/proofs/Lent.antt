-- What a call decides on lent columns is what it decides on the table that lends them; and a call on a table by value gives back
-- what its decision leaves.
use Prim.Native.Nat.{ℕ, ◌≤◌}
use mathlib.Core.Path.{◌≡◌, refl, sym, ap}
use mathlib.Core.Bool.{Bool, true, false, false≢true}
use mathlib.Core.List.{List, []}
use lib.ListN.{length, take}
use lib.Seq.{take_all}
use Rattle.kinds.specs.declared.Stamp.{Stamp}
use Rattle.kinds.specs.declared.PinNo.{PinNo}
use Rattle.kinds.specs.Verdicts.{Verdict, Pass, Refuse, then}
use Rattle.model.specs.declared.Table.{Table}
use Rattle.model.specs.declared.answer.Decision.{Decision}
use Rattle.model.specs.declared.answer.SnapshotDecision.{SnapshotDecision}
use Rattle.model.specs.declared.answer.Outcome.{Outcome}
use Rattle.model.specs.declared.answer.SnapshotOutcome.{SnapshotOutcome}
use Rattle.model.specs.Tables.{clock_of, lent, lent_txids, lent_to_pin, lent_pins}
use Rattle.model.specs.Changes.{applied}
use Rattle.model.specs.Tests.{reservation_test, observation_test, pin_test, release_test}
use Rattle.model.specs.Calls.{Call, begin, end, snap, own, oldest, vacuum, stamp, finish, pin, unpin}
use Rattle.model.specs.Calls.{refusal}
use Rattle.model.specs.Calls.{change_accepted, change_by, change_of, after, answer_accepted, answer_by, answer}
use Rattle.model.specs.Calls.{shown_accepted, shown_by, shown, decision, snapshot_decision, outcome, snapshot_outcome}

-- who reads more than the txids and the counters: the snapshot_xmins or the pins
abbrev pub reads_more : Call → Bool
reads_more (begin number) = false
reads_more (end slot id) = false
reads_more (snap clock sample) = false
reads_more (own slot id clock sample) = false
reads_more (oldest clock sample) = true
reads_more (vacuum clock sample) = true
reads_more (stamp number) = false
reads_more (finish slot id number) = false
reads_more (pin clock sample) = true
reads_more (unpin k) = true

-- whoever doesn't is refused the same whatever they are
same_refusal :
    (n : ℕ) (t : Table) (xmins pins : List ℕ) (c : Call) → reads_more c ≡ false →
    refusal n (lent t.txids xmins pins t.counters) c ≡ refusal n t c
unfolding refusal
same_refusal n t xmins pins (begin number) e = refl
same_refusal n t xmins pins (end slot id) e = refl
same_refusal n t xmins pins (snap clock sample) e = refl
same_refusal n t xmins pins (own slot id clock sample) e = refl
same_refusal n t xmins pins (oldest clock sample) e = refl
same_refusal n t xmins pins (vacuum clock sample) e = refl
same_refusal n t xmins pins (stamp number) e = refl
same_refusal n t xmins pins (finish slot id number) e = refl
same_refusal n t xmins pins (pin clock sample) e = absurd (false≢true (sym e))
same_refusal n t xmins pins (unpin k) e = absurd (false≢true (sym e))

-- .. and does the same
abbrev by : Verdict → ℕ → Table → Call → SnapshotDecision
by v n t c = record { change = change_by v t c; answer = answer_by v t c; snapshot = shown_by v n t c }

same_by :
    (v : Verdict) (n : ℕ) (t : Table) (xmins pins : List ℕ) (c : Call) → reads_more c ≡ false →
    by v n (lent t.txids xmins pins t.counters) c ≡ by v n t c
unfolding change_accepted answer_accepted shown_accepted
same_by (Refuse r) n t xmins pins c e = refl
same_by Pass n t xmins pins (begin number) e = refl
same_by Pass n t xmins pins (end slot id) e = refl
same_by Pass n t xmins pins (snap clock sample) e = refl
same_by Pass n t xmins pins (own slot id clock sample) e = refl
same_by Pass n t xmins pins (oldest clock sample) e = absurd (false≢true (sym e))
same_by Pass n t xmins pins (vacuum clock sample) e = absurd (false≢true (sym e))
same_by Pass n t xmins pins (stamp number) e = refl
same_by Pass n t xmins pins (finish slot id number) e = refl
same_by Pass n t xmins pins (pin clock sample) e = absurd (false≢true (sym e))
same_by Pass n t xmins pins (unpin k) e = absurd (false≢true (sym e))

module _ (n : ℕ) (t : Table) (c : Call) where
  pub lent_shows :
      reads_more c ≡ false → snapshot_decision n (lent_txids t.txids t.counters) c ≡ snapshot_decision n t c
  unfolding change_of answer shown snapshot_decision
  lent_shows e = rw (same_refusal n t [] [] c e) (same_by (refusal n t c) n t [] [] c e)

  pub lent_decides : reads_more c ≡ false → decision n (lent_txids t.txids t.counters) c ≡ decision n t c
  unfolding decision snapshot_decision
  lent_decides e = ap (λ (d : SnapshotDecision). record { change = d.change; answer = d.answer }) (lent_shows e)

  -- .. where the table has no more slots than a snapshot has places
  pub slots_show :
      length t.txids ≤ n → reads_more c ≡ false →
      snapshot_decision n (lent_txids (take n t.txids) t.counters) c ≡ snapshot_decision n t c
  slots_show few e = rw (take_all n t.txids few) (lent_shows e)

  -- a call by value makes the change that was decided
  pub outcome_of :
      {d : Decision} → d ≡ decision n t c →
      ◌≡◌ {A = Outcome} (record { table = applied t d.change; answer = d.answer }) (outcome n t c)
  unfolding after decision outcome
  outcome_of e = rw e

  pub snapshot_outcome_of :
      {d : SnapshotDecision} → d ≡ snapshot_decision n t c →
      ◌≡◌ {A = SnapshotOutcome} (record { table = applied t d.change; answer = d.answer; snapshot = d.snapshot })
      (snapshot_outcome n t c)
  unfolding after snapshot_decision snapshot_outcome
  snapshot_outcome_of e = rw e

abbrev decides_by : Verdict → Table → Call → Decision
decides_by v t c = record { change = change_by v t c; answer = answer_by v t c }

-- a stamp reads the counters alone, so it is lent no column
pub lent_stamps :
    (n : ℕ) (t : Table) (number : Stamp) →
    decision n (lent_txids [] t.counters) (stamp number) ≡ decision n t (stamp number)
unfolding refusal change_accepted change_of answer_accepted answer decision
lent_stamps n t number = go (reservation_test (clock_of t) number)
  where
    go : (v : Verdict) → decides_by v (lent_txids [] t.counters) (stamp number) ≡ decides_by v t (stamp number)
    go Pass = refl
    go (Refuse r) = refl

-- a pinned snapshot reads no snapshot_xmin; a release reads the pins alone
pub lent-pins :
    (n : ℕ) (t : Table) (clock sample : ℕ) → length t.txids ≤ n →
    snapshot_decision n (lent_to_pin n t.txids t.pins t.counters) (pin clock sample)
    ≡ snapshot_decision n t (pin clock sample)
unfolding refusal change_accepted change_of answer_accepted answer shown_accepted shown snapshot_decision
lent-pins n t clock sample few =
    rw (take_all n t.txids few) (go (then (observation_test (clock_of t) clock sample) (pin_test t.pins)))
  where
    go : (v : Verdict) → by v n (lent t.txids [] t.pins t.counters) (pin clock sample) ≡ by v n t (pin clock sample)
    go Pass = refl
    go (Refuse r) = refl

pub lent_releases :
    (n : ℕ) (t : Table) (k : PinNo) → decision n (lent_pins t.pins t.counters) (unpin k) ≡ decision n t (unpin k)
unfolding refusal change_accepted change_of answer_accepted answer decision
lent_releases n t k = go (release_test t.pins k)
  where
    go : (v : Verdict) → decides_by v (lent_pins t.pins t.counters) (unpin k) ≡ decides_by v t (unpin k)
    go Pass = refl
    go (Refuse r) = refl
