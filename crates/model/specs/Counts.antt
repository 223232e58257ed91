-- How many calls of a kind a history accepted, and how many slots are taken.
use Rattle.std.specs.Prelude.{ℕ, ◌+◌, List, [], ◌∷◌, Bool, cond, length}
use Rattle.kinds.specs.Verdicts.{Verdict, Pass, Refuse}
use Rattle.model.specs.declared.Table.{Table}
use Rattle.model.specs.Tally.{active}
use Rattle.model.specs.Tables.{fresh_table}
use Rattle.model.specs.Calls.{Call, refusal, after}
use Rattle.model.specs.Deeds.{opens, closes}

-- 1 for an accepted call of the kind, 0 for any other
abbrev pub counts : Verdict → Bool → ℕ
counts Pass kind = cond kind 1 0
counts (Refuse r) kind = 0

-- how many calls of the kind were accepted
unfoldable pub accepted_from : (Call → Bool) → ℕ → Table → List Call → ℕ
accepted_from kind n t [] = 0
accepted_from kind n t (c ∷ cs) = counts (refusal n t c) (kind c) + accepted_from kind n (after n t c) cs

-- accepted begins, and accepted ends and finishes, from fresh
abbrev pub begins : ℕ → List Call → ℕ
begins n cs = accepted_from opens n (fresh_table n) cs

abbrev pub ends_and_finishes : ℕ → List Call → ℕ
ends_and_finishes n cs = accepted_from closes n (fresh_table n) cs

-- the number of taken slots
abbrev pub taken_slots : Table → ℕ
taken_slots t = length (active t.txids)
