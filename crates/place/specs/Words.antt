-- A table of n slots as a run of words, and what storing a change leaves of them.
use Rattle.std.specs.Prelude.{ℕ, ◌+◌, ◌*◌, cond, List, [], ◌∷◌, ◌++◌, eqb, length, take, drop, get_or}
use Rattle.kinds.specs.Kinds.{pin_count}
use Rattle.model.specs.declared.Table.{Table}
use Rattle.model.specs.declared.change.Change.{Change}
use Rattle.model.specs.Tables.{counted, lent, clock_of, sample_of, line_of}
use Rattle.model.specs.Changes.{applied}

-- where the pins and the counters begin, and how many words a table has
abbrev pub pins_from : ℕ → ℕ
pins_from n = 2 * n

abbrev pub counters_from : ℕ → ℕ
counters_from n = pins_from n + pin_count

abbrev pub size_of : ℕ → ℕ
size_of n = counters_from n + 3

-- the table that words say
unfoldable pub table_of : ℕ → List ℕ → Table
table_of n ws =
    lent (take n ws) (take n (drop n ws)) (take pin_count (drop (pins_from n) ws))
    (counted (get_or ws (counters_from n) 0) (get_or ws (counters_from n + 1) 0) (get_or ws (counters_from n + 2) 0))

-- the words of a table: the txids, the snapshot_xmins, the pins, then clock, sample and line
abbrev pub laid : List ℕ → List ℕ → List ℕ → List ℕ → List ℕ
laid txids xmins pins rest = txids ++ (xmins ++ (pins ++ rest))

unfoldable pub words_of : Table → List ℕ
words_of t = laid t.txids t.snapshot_xmins t.pins (clock_of t ∷ sample_of t ∷ line_of t ∷ [])

-- a change made where the table lies; a run of another length is no table, and stays
unfoldable pub stored_words : ℕ → List ℕ → Change → List ℕ
stored_words n ws c = cond (eqb (length ws) (size_of n)) (words_of (applied (table_of n ws) c)) ws
