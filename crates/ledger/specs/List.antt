-- The list of calls, a row of six numbers each.
use Rattle.std.specs.Prelude.{ℕ, ◌+◌, cond, List, map, ltb, set}
use Rattle.kinds.specs.declared.refusal.Refusal.TheVariants.{TooManyCalls}
use Rattle.model.specs.Calls.{Call}
pub use Rattle.ledger_calls.specs.Rows.{row_call}
use Rattle.ledger.specs.Kept.{Kept, Used, Refused}

abbrev pub calls_of : List (List ℕ) → List Call
calls_of rows = map row_call rows

-- one more row, where fewer than `most` are in use
unfoldable pub kept_answer : ℕ → ℕ → Kept
kept_answer most used = cond (ltb used most) (Used (used + 1)) (Refused TooManyCalls)

unfoldable pub kept_run : ℕ → List (List ℕ) → ℕ → List ℕ → List (List ℕ)
kept_run most calls used row = cond (ltb used most) (set calls used row) calls
