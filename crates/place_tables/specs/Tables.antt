-- The fresh table in a run of words, and the table check of one.
use Rattle.std.specs.Prelude.{ℕ, cond, List, eqb, length}
use Rattle.kinds.specs.declared.refusal.Refusal.TheVariants.{BadImage}
use Rattle.kinds.specs.Refusals.{told}
use Rattle.model.specs.Check.{table_passes}
use Rattle.model.specs.Tables.{fresh_table}
use Rattle.place.specs.Words.{size_of, table_of, words_of}

-- 18: the run has another length; then it stays
unfoldable pub fresh_number : ℕ → List ℕ → ℕ
fresh_number n table = cond (eqb (length table) (size_of n)) 0 (told BadImage).number

unfoldable pub fresh_after : ℕ → List ℕ → List ℕ
fresh_after n table = cond (eqb (length table) (size_of n)) (words_of (fresh_table n)) table

-- 18: the run has another length; else 1 where its table passes the check, 0 where it doesn't
unfoldable pub check_number : ℕ → List ℕ → ℕ
check_number n table =
    cond (eqb (length table) (size_of n)) (cond (table_passes n (table_of n table)) 1 0) (told BadImage).number
