-- A reader as a value: the lent trace, its pointer with it, and a place. And what asking it gives.
use Rattle.std.specs.Prelude.{ℕ, List}
use Rattle.std.specs.Borrow.{Bor}
use Rattle.trace.specs.Record.{record_at}
use Rattle.trace.specs.RecordAt.{RecordAt, Is, Broken}
use Rattle.reader.specs.declared.Reader.{Reader}
use Rattle.reader.specs.declared.Step.{Step}

-- the reader that holds this very trace and stands at this place
abbrev pub standing : Bor (List ℕ) → ℕ → Reader
standing text at = record { text = text; at = at }

-- the place past what was found; where nothing was found, the place itself
abbrev pub past_of : RecordAt → ℕ → ℕ
past_of (Is r past) at = past
past_of (Broken k) at = at

-- what a reader finds where it stands
abbrev pub found_by : Reader → RecordAt
found_by r = record_at r.text.now r.at

-- what is found, and the reader moved past it, over the very same trace, its pointer with it
abbrev pub step_of : Reader → Step
step_of r = record { found = found_by r; reader = standing r.text (past_of (found_by r) r.at) }
