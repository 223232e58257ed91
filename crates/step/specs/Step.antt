-- What running one call promises, on columns and counters that are lent: they are a table.
use Rattle.std.specs.Prelude.{ℕ, cond, List, leb, length}
use Rattle.model.specs.declared.Counters.{Counters}
use Rattle.model.specs.declared.Table.{Table}
use Rattle.model.specs.declared.change.SlotChange.TheVariants.{Stays}
use Rattle.model.specs.Changes.{change}
use Rattle.model.specs.Calls.{Call, change_of, shown}
use Rattle.trace.specs.declared.Version.{Version}
use Rattle.output.specs.Output.{printed, put_text, left_text}
use Rattle.text.specs.Put.{NoRoom}
use Rattle.step.specs.declared.Ran.{Ran}

-- its text is put where it has room, and its change is the table's next step
abbrev pub ran_of : Version → ℕ → Table → Call → List ℕ → ℕ → Ran
ran_of v n t c xs at = record { put = put_text v n xs at (shown n t c).count (printed v n t c); change = change_of n t c }

abbrev pub left_of : Version → ℕ → Table → Call → List ℕ → ℕ → List ℕ
left_of v n t c xs at = left_text v n xs at (shown n t c).count (printed v n t c)

-- no text, and no change
abbrev pub nothing_ran : Counters → Ran
nothing_ran was = record { put = NoRoom; change = change Stays was }

-- nothing is run on columns of more than n slots
unfoldable pub ran : Version → ℕ → Table → Call → List ℕ → ℕ → Ran
ran v n t c xs at =
    cond (leb (length t.txids) n) (ran_of v n t c xs at) (nothing_ran t.counters)

unfoldable pub ran_left : Version → ℕ → Table → Call → List ℕ → ℕ → List ℕ
ran_left v n t c xs at = cond (leb (length t.txids) n) (left_of v n t c xs at) xs
