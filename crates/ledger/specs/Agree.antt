-- The two engines side by side, on any list of calls from fresh.
use Rattle.std.specs.Prelude.{ℕ, ◌≤◌, ◌≡◌, cond, List, [], ◌∷◌, ◌++◌, map, ltb, length}
use Rattle.kinds.specs.declared.refusal.Refusal.{Refusal}
use Rattle.kinds.specs.declared.refusal.Refusal.TheVariants.{TooManyCalls}
use Rattle.model.specs.declared.Table.{Table}
use Rattle.model.specs.Tables.{fresh_table}
use Rattle.model.specs.Calls.{Call, after}
use Rattle.ledger.specs.declared.answer.Said.{Said}
use Rattle.ledger.specs.List.{calls_of}
use Rattle.ledger.specs.Said.{said_on, worked_out}

-- the table's: it is carried from call to call
unfoldable pub table_says : ℕ → Table → List Call → List Said
table_says n t [] = []
table_says n t (c ∷ cs) = said_on n t c ∷ table_says n (after n t c) cs

-- the second engine's: the list is carried, and grows until it is full
pub data Answered : Type 0 where
  says : Said → Answered
  refuses : Refusal → Answered

abbrev pub list_after : ℕ → List (List ℕ) → List ℕ → List (List ℕ)
list_after most kept row = cond (ltb (length kept) most) (kept ++ row ∷ []) kept

abbrev pub list_says : ℕ → ℕ → List (List ℕ) → List ℕ → Answered
list_says most n kept row = cond (ltb (length kept) most) (says (worked_out n kept row)) (refuses TooManyCalls)

unfoldable pub engine_says : ℕ → ℕ → List (List ℕ) → List (List ℕ) → List Answered
engine_says most n kept [] = []
engine_says most n kept (row ∷ rows) = list_says most n kept row ∷ engine_says most n (list_after most kept row) rows

-- for every list within the limit, from fresh, they say the same at each call; and a full list refuses, and stays
pub record Agreement (most n : ℕ) : Type 0 where
  pub within :
      (rows : List (List ℕ)) → length rows ≤ most →
      engine_says most n [] rows ≡ map says (table_says n (fresh_table n) (calls_of rows))
  pub beyond :
      (kept rows : List (List ℕ)) (row : List ℕ) → most ≤ length kept →
      engine_says most n kept (row ∷ rows) ≡ refuses TooManyCalls ∷ engine_says most n kept rows
