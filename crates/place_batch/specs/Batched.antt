-- What a host is answered about a batch of versions. 12: there is no word for the bad version's place; then nothing is written.
use Rattle.std.specs.Prelude.{ℕ, cond, List, eqb, length, set}
use Rattle.kinds.specs.declared.refusal.Refusal.TheVariants.{NoRoom}
use Rattle.kinds.specs.Refusals.{told}
use Rattle.batch.specs.Batch.{batch_of, batch_told, decisions_left}

unfoldable pub batch_number : List (List ℕ) → ℕ → ℕ → ℕ
batch_number versions room out = cond (eqb out 0) (told NoRoom).number (batch_told (batch_of versions room)).number

-- the decisions in the first places of the run
unfoldable pub batch_run : ℕ → List (List ℕ) → List ℕ → ℕ → List ℕ
batch_run line versions run out = cond (eqb out 0) run (decisions_left line versions run)

-- the place of the bad version, else 0, in the first word; the others stay
unfoldable pub batch_out : List (List ℕ) → ℕ → List ℕ → List ℕ
batch_out versions room out = cond (eqb (length out) 0) out (set out 0 (batch_told (batch_of versions room)).at)
