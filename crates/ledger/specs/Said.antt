-- All that is printed of an answer: by the table, and by the second engine, which has the list alone.
use Rattle.std.specs.Prelude.{ℕ, cond, List, eqb, replicate}
use Rattle.model.specs.declared.Table.{Table}
use Rattle.model.specs.Tables.{line_of}
use Rattle.model.specs.Tally.{active, places}
use Rattle.model.specs.Calls.{Call, after, answer, shown}
use Rattle.model.specs.Answers.{numbers_beside}
use Rattle.model.specs.History.{reached}
use Rattle.ledger.specs.declared.answer.Said.{Said}
use Rattle.ledger.specs.List.{row_call, calls_of}

-- the ids beside an answer that lists so many
unfoldable pub listed_by : ℕ → ℕ → List ℕ → List ℕ
listed_by n count txids = cond (eqb count 0) (replicate n 0) (places n (active txids))

-- what a call on a table says: its answer and the snapshot that it shows, and the line after it
unfoldable pub said_on : ℕ → Table → Call → Said
said_on n t c =
    record { numbers = numbers_beside (answer n t c) (shown n t c) (line_of (after n t c)); ids = (shown n t c).ids }

-- what it says after the calls of a list, each made on what the ones before it left, from fresh
unfoldable pub worked_out : ℕ → List (List ℕ) → List ℕ → Said
worked_out n rows row = said_on n (reached n (calls_of rows)) (row_call row)
