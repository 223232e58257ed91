-- The list told from its start reaches the table that was carried along, so both say the same.
use Prim.Native.Nat.{ℕ, ◌+◌, ◌≤◌}
use mathlib.Core.Path.{◌≡◌, refl, ap}
use mathlib.Core.List.{List, [], ◌∷◌, ◌++◌, map}
use native.Mathlib.Omega.{arith}
use lib.ListN.{length}
use borrow.Author.Tests.{lt-ltb, le-ltb}
use Rattle.model.specs.Tables.{fresh_table}
use Rattle.model.specs.Calls.{Call, after}
use Rattle.model.specs.History.{run, reached}
use Rattle.model.proofs.History.{run_snoc}
use Rattle.ledger.specs.List.{row_call, calls_of}
use Rattle.ledger.specs.Said.{said_on, worked_out}
use Rattle.ledger.specs.Agree.{table_says, Answered, says, engine_says, Agreement}

map_snoc : (rows : List (List ℕ)) (row : List ℕ) → calls_of (rows ++ row ∷ []) ≡ calls_of rows ++ row_call row ∷ []
map_snoc [] row = refl
map_snoc (r ∷ rows) row = ap (λ (l : List Call). row_call r ∷ l) (map_snoc rows row)

longer : (rows : List (List ℕ)) (row : List ℕ) → length (rows ++ row ∷ []) ≡ length rows + 1
longer [] row = refl
longer (r ∷ rows) row = let e = longer rows row in omega arith

-- one row more is one call more on what was reached
reached_more :
    (n : ℕ) (rows : List (List ℕ)) (row : List ℕ) →
    reached n (calls_of (rows ++ row ∷ [])) ≡ after n (reached n (calls_of rows)) (row_call row)
reached_more n rows row = rw (map_snoc rows row) (run_snoc n (fresh_table n) (calls_of rows) (row_call row))

agree_from :
    (most n : ℕ) (kept rows : List (List ℕ)) → length kept + length rows ≤ most →
    engine_says most n kept rows ≡ map says (table_says n (reached n (calls_of kept)) (calls_of rows))
unfolding engine_says table_says worked_out
agree_from most n kept [] h = refl
agree_from most n kept (row ∷ rows) h =
    let l = longer kept row in
    let rest = agree_from most n (kept ++ row ∷ []) rows (omega arith) in
    let here = says (said_on n (reached n (calls_of kept)) (row_call row)) in
    rw (lt-ltb (length kept) most (omega arith))
    (ap (λ (l : List Answered). here ∷ l) (rw (reached_more n kept row) at rest))

pub agreement : (most n : ℕ) → Agreement most n
unfolding engine_says run
agreement most n =
    record {
      within = λ rows h. agree_from most n [] rows (omega arith);
      beyond = λ kept rows row h. rw (le-ltb (length kept) most h);
    }
