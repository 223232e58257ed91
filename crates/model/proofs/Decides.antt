-- What a call decides, by its verdict: one law for every call but begin; and its two halves, for a refused one and for an accepted one.
use Prim.Native.Nat.{ℕ}
use mathlib.Core.Path.{◌≡◌, refl, sym}
use mathlib.Core.Bool.{false}
use Rattle.kinds.specs.declared.refusal.Refusal.{Refusal}
use Rattle.kinds.specs.Verdicts.{Verdict, Pass, Refuse}
use Rattle.settled.specs.Snapshots.{no_snapshot}
use Rattle.model.specs.declared.Counters.{Counters}
use Rattle.model.specs.declared.Table.{Table}
use Rattle.model.specs.declared.change.SlotChange.TheVariants.{Stays}
use Rattle.model.specs.Answer.{Refused}
use Rattle.model.specs.declared.answer.Decision.{Decision}
use Rattle.model.specs.declared.answer.SnapshotDecision.{SnapshotDecision}
use Rattle.model.specs.Changes.{change, refused_decision}
use Rattle.model.specs.Calls.{Call, refusal, change_accepted, change_of, answer_accepted, answer, shown_accepted, shown}
use Rattle.model.specs.Calls.{decision, snapshot_decision}
use Rattle.model.specs.Deeds.{opens}
use Rattle.model.proofs.Refused.{refused_kept}

-- a refused call leaves the counters, and shows the snapshot of zeros
abbrev pub refused_snapshot : ℕ → Counters → Refusal → SnapshotDecision
refused_snapshot n was r = record { change = change Stays was; answer = Refused r; snapshot = no_snapshot n }

-- what a verdict decides: refused, the above; accepted, what the call changes and answers
abbrev pub decided : Verdict → Table → Call → Decision
decided Pass t c = record { change = change_accepted t c; answer = answer_accepted t c }
decided (Refuse r) t c = refused_decision t.counters r

abbrev pub decided_snapshot : Verdict → ℕ → Table → Call → SnapshotDecision
decided_snapshot Pass n t c =
    record { change = change_accepted t c; answer = answer_accepted t c; snapshot = shown_accepted n t c }
decided_snapshot (Refuse r) n t c = refused_snapshot n t.counters r

module _ (n : ℕ) (t : Table) (c : Call) where
  pub refused_decides :
      {r : Refusal} → opens c ≡ false → refusal n t c ≡ Refuse r → refused_decision t.counters r ≡ decision n t c
  unfolding change_of answer decision
  refused_decides {r} b e = rw (e, refused_kept n t c r b e)

  pub refused_shows :
      {r : Refusal} → opens c ≡ false → refusal n t c ≡ Refuse r → refused_snapshot n t.counters r ≡ snapshot_decision n t c
  unfolding change_of answer shown snapshot_decision
  refused_shows {r} b e = rw (e, refused_kept n t c r b e)

  pub accepted_decides :
      refusal n t c ≡ Pass → record { change = change_accepted t c; answer = answer_accepted t c } ≡ decision n t c
  unfolding change_of answer decision
  accepted_decides e = rw e

  pub accepted_shows :
      refusal n t c ≡ Pass →
      record { change = change_accepted t c; answer = answer_accepted t c; snapshot = shown_accepted n t c }
      ≡ snapshot_decision n t c
  unfolding change_of answer shown snapshot_decision
  accepted_shows e = rw e

  pub decides : opens c ≡ false → decision n t c ≡ decided (refusal n t c) t c
  decides b = go (refusal n t c) refl
    where
      go : (v : Verdict) → refusal n t c ≡ v → decision n t c ≡ decided v t c
      go Pass e = sym (accepted_decides e)
      go (Refuse r) e = sym (refused_decides b e)

  pub shows : opens c ≡ false → snapshot_decision n t c ≡ decided_snapshot (refusal n t c) n t c
  shows b = go (refusal n t c) refl
    where
      go : (v : Verdict) → refusal n t c ≡ v → snapshot_decision n t c ≡ decided_snapshot v n t c
      go Pass e = sym (accepted_shows e)
      go (Refuse r) e = sym (refused_shows b e)
