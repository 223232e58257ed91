-- What the pinned snapshot decides and shows by its two tests: the observation, then the lowest free pin.
use Prim.Native.Nat.{ℕ, ◌<◌, ◌≤◌, max}
use mathlib.Core.Path.{◌≡◌}
use borrow.Author.Tests.{lt-leb, le-leb}
use Rattle.kinds.specs.declared.refusal.Refusal.{Refusal}
use Rattle.kinds.specs.declared.refusal.Refusal.TheVariants.{NoFreePin}
use Rattle.kinds.specs.Verdicts.{Pass, Refuse}
use Rattle.kinds.specs.Kinds.{pin_count, pin_no}
use Rattle.model.specs.declared.Counters.{Counters}
use Rattle.model.specs.declared.Table.{Table}
use Rattle.model.specs.Tally.{lowest_empty}
use Rattle.model.specs.Tables.{clock_of, line_of}
use Rattle.model.specs.Changes.{observed}
use Rattle.model.specs.Tests.{observation_test}
use Rattle.model.specs.Calls.{pin, refusal, change_accepted, answer_accepted, shown_accepted, shown}
use Rattle.model.proofs.Decides.{accepted_decides}
use Rattle.place_answers.specs.declared.shows.Retainer.TheVariants.{Pin}
use Rattle.place_answers.specs.Shows.{Passes}

module _ (n : ℕ) (t : Table) (clock sample : ℕ) where
  pub pin_refused :
      {r : Refusal} → observation_test (clock_of t) clock sample ≡ Refuse r → refusal n t (pin clock sample) ≡ Refuse r
  unfolding refusal
  pin_refused e = rw e

  module _ (e : observation_test (clock_of t) clock sample ≡ Pass) {at : ℕ} (low : at ≡ lowest_empty t.pins) where
    pub none_free : pin_count ≤ at → refusal n t (pin clock sample) ≡ Refuse NoFreePin
    unfolding refusal
    none_free h = rw (e, le-leb pin_count (lowest_empty t.pins) (rw low at h))

    one_free : at < pin_count → refusal n t (pin clock sample) ≡ Pass
    unfolding refusal
    one_free h = rw (e, lt-leb pin_count (lowest_empty t.pins) (rw low at h))

    pub pin_passes :
        at < pin_count → {k : Counters} → k ≡ observed clock sample t.counters → {used : ℕ} → used ≡ max sample (line_of t) →
        Passes n t (pin clock sample) (record { sample = used; retainer = Pin (pin_no at); counters = k })
    unfolding change_accepted answer_accepted shown_accepted shown
    pin_passes h k u =
        record {
          decides = rw (k, u, low) (accepted_decides n t (pin clock sample) (one_free h));
          shows = rw (one_free h, u);
        }
