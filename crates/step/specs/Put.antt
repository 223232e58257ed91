-- What is put for a decided call.
use Rattle.std.specs.Prelude.{ℕ, ◌≡◌, List, []}
use Rattle.model.specs.declared.answer.Decision.{Decision}
use Rattle.model.specs.declared.answer.SnapshotDecision.{SnapshotDecision}
use Rattle.model.specs.Answers.{numbers_beside, listing}
use Rattle.answer_numbers.specs.Plain.{plain_numbers}
use Rattle.trace.specs.declared.Version.{Version}
use Rattle.output.specs.Output.{answer_text, put_text, left_text}
use Rattle.step.specs.declared.Ran.{Ran}

-- a call that shows no snapshot tells of one of zeros, and lists nothing
abbrev pub plain_text : Version → Decision → List ℕ
plain_text v d = answer_text v (plain_numbers d) []

abbrev pub plain_ran : Version → ℕ → Decision → List ℕ → ℕ → Ran
plain_ran v n d xs at = record { put = put_text v n xs at 0 (plain_text v d); change = d.change }

abbrev pub plain_left : Version → ℕ → Decision → List ℕ → ℕ → List ℕ
plain_left v n d xs at = left_text v n xs at 0 (plain_text v d)

-- a snapshot call tells of its snapshot, and lists its ids
abbrev pub listing_text : Version → SnapshotDecision → List ℕ
listing_text v d =
    answer_text v (numbers_beside d.answer d.snapshot d.change.counters.vacuum_line) (listing d.snapshot)

abbrev pub listing_ran : Version → ℕ → SnapshotDecision → List ℕ → ℕ → Ran
listing_ran v n d xs at = record { put = put_text v n xs at d.snapshot.count (listing_text v d); change = d.change }

abbrev pub listing_left : Version → ℕ → SnapshotDecision → List ℕ → ℕ → List ℕ
listing_left v n d xs at = left_text v n xs at d.snapshot.count (listing_text v d)

-- what putting either leaves: where the text ends and the change, and the text in the buffer
pub record PlainPut (v : Version) (n : ℕ) (d : Decision) (xs : List ℕ) (at : ℕ) (ys : List ℕ) (o : Ran) : Type 0 where
  pub ran : o ≡ plain_ran v n d xs at
  pub left : ys ≡ plain_left v n d xs at

pub record ListingPut (v : Version) (n : ℕ) (d : SnapshotDecision) (xs : List ℕ) (at : ℕ) (ys : List ℕ) (o : Ran) : Type 0 where
  pub ran : o ≡ listing_ran v n d xs at
  pub left : ys ≡ listing_left v n d xs at
