-- A history in two parts, one after the other.
use Prim.Native.Nat.{ℕ}
use mathlib.Core.Path.{◌≡◌, refl}
use mathlib.Core.List.{List, [], ◌∷◌, ◌++◌}
use Rattle.model.specs.declared.Table.{Table}
use Rattle.model.specs.Calls.{Call, after}
use Rattle.model.specs.History.{run}

pub run-append : (n : ℕ) (t : Table) (before later : List Call) → run n t (before ++ later) ≡ run n (run n t before) later
unfolding run
run-append n t [] later = refl
run-append n t (c ∷ before) later = run-append n (after n t c) before later

-- the last call of a history makes the step that the call's contract cites
pub run_snoc : (n : ℕ) (t : Table) (cs : List Call) (c : Call) → run n t (cs ++ c ∷ []) ≡ after n (run n t cs) c
unfolding run
run_snoc n t cs c = run-append n t cs (c ∷ [])
