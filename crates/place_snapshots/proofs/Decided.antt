-- What the plain snapshot and the transaction's decide and show where they pass their tests.
use Prim.Native.Nat.{ℕ}
use mathlib.Core.Path.{◌≡◌, sym, ◌∙◌}
use Rattle.kinds.specs.declared.SlotNo.{SlotNo}
use Rattle.kinds.specs.declared.Txid.{Txid}
use Rattle.kinds.specs.declared.refusal.Refusal.{Refusal}
use Rattle.kinds.specs.Verdicts.{Verdict, Pass, Refuse}
use Rattle.model.specs.declared.Counters.{Counters}
use Rattle.model.specs.declared.Table.{Table}
use Rattle.model.specs.Tables.{clock_of, lent_slots}
use Rattle.model.specs.Changes.{observed}
use Rattle.model.specs.Tests.{observation_test}
use Rattle.model.specs.Calls.{snap, own, refusal, change_accepted, answer_accepted, shown_accepted, shown}
use Rattle.model.proofs.Decides.{accepted_decides}
use Rattle.own_call.proofs.Cut.{own_refusal}
use Rattle.place_answers.specs.declared.shows.Retainer.TheVariants.{Nobody, Slot}
use Rattle.place_answers.specs.Shows.{Passes}

module _ (n : ℕ) (t : Table) (clock sample : ℕ) where
  pub snap_refused :
      {r : Refusal} → observation_test (clock_of t) clock sample ≡ Refuse r → refusal n t (snap clock sample) ≡ Refuse r
  unfolding refusal
  snap_refused e = e

  pub snap_passes :
      observation_test (clock_of t) clock sample ≡ Pass → {k : Counters} → k ≡ observed clock sample t.counters →
      Passes n t (snap clock sample) (record { sample = sample; retainer = Nobody; counters = k })
  unfolding refusal change_accepted answer_accepted shown_accepted shown
  snap_passes e k = record { decides = rw k (accepted_decides n t (snap clock sample) e); shows = rw e }

  module _ (slot : SlotNo) (id : Txid) where
    -- the owner is looked up among the first n slots
    pub own_tested :
        {v : Verdict} → v ≡ refusal n (lent_slots n t.txids t.counters) (own slot id clock sample) →
        refusal n t (own slot id clock sample) ≡ v
    unfolding refusal
    own_tested e = sym (e ∙ own_refusal n t.txids t.counters slot id clock sample)

    pub own_passes :
        refusal n t (own slot id clock sample) ≡ Pass → {k : Counters} → k ≡ observed clock sample t.counters →
        Passes n t (own slot id clock sample) (record { sample = sample; retainer = Slot slot; counters = k })
    unfolding change_accepted answer_accepted shown_accepted shown
    own_passes e k = record { decides = rw k (accepted_decides n t (own slot id clock sample) e); shows = rw e }
