-- A call that shows a snapshot, by its tests: what is decided and shown where it passes them.
use Rattle.std.specs.Prelude.{ℕ, ◌≡◌, Result}
use Rattle.std.specs.Result.{MatchResult}
use Rattle.kinds.specs.declared.refusal.Refusal.{Refusal}
use Rattle.kinds.specs.Verdicts.{Refuse}
use Rattle.model.specs.declared.Table.{Table}
use Rattle.model.specs.declared.change.SlotChange.{SlotChange}
use Rattle.model.specs.declared.change.SlotChange.TheVariants.{Stays, Retains, Pins}
use Rattle.model.specs.Answer.{Answer, Done, Pinned}
use Rattle.model.specs.declared.answer.Decision.{Decision}
use Rattle.model.specs.Tally.{active, xmin_of, snapshot_of}
use Rattle.model.specs.Changes.{change}
use Rattle.model.specs.Calls.{Call, refusal, shown, decision}
use Rattle.place_answers.specs.declared.shows.Retainer.{Retainer}
use Rattle.place_answers.specs.declared.shows.Retainer.TheVariants.{Nobody, Slot, Pin}
use Rattle.place_answers.specs.declared.shows.Passed.{Passed}

-- the xmin goes to whom retains it, and a pin is told
abbrev pub retained_by : Retainer → ℕ → SlotChange
retained_by Nobody xmin = Stays
retained_by (Slot slot) xmin = Retains slot xmin
retained_by (Pin pin) xmin = Pins pin xmin

abbrev pub told_by : Retainer → Answer
told_by Nobody = Done
told_by (Slot slot) = Done
told_by (Pin pin) = Pinned pin

abbrev pub decided_by : Passed → ℕ → Decision
decided_by p xmin = record { change = change (retained_by p.retainer xmin) p.counters; answer = told_by p.retainer }

-- with the xmin of a snapshot that is taken with its sample, this is the call's decision; and it shows that snapshot
pub record Passes (n : ℕ) (t : Table) (c : Call) (p : Passed) : Type 0 where
  pub decides : decided_by p (xmin_of p.sample (active t.txids)) ≡ decision n t c
  pub shows : shown n t c ≡ snapshot_of n t.txids p.sample

-- a test's outcome: this, or the call's refusal
abbrev pub TestedBy : ℕ → Table → Call → Result Passed Refusal → Type 0
TestedBy n t c r = MatchResult r (λ p. Passes n t c p) (λ r. refusal n t c ≡ Refuse r)
