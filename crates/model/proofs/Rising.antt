-- The line never falls.
use Prim.Native.Nat.{ℕ, ◌≤◌}
use mathlib.Core.List.{List, [], ◌∷◌, ◌++◌}
use native.Mathlib.Nat.{le_refl, le_trans}
use native.Mathlib.Omega.{arith}
use Rattle.model.specs.declared.Table.{Table}
use Rattle.model.specs.Tables.{line_of}
use Rattle.model.specs.Calls.{Call, change_accepted, after}
use Rattle.model.specs.History.{run, reached}
use Rattle.model.proofs.Calls.{after_cases}
use Rattle.model.proofs.Accepted.{accepted_acceptable}
use Rattle.model.proofs.Does.{LineMoves, line_stays, line_raised, counts_on}
use Rattle.model.proofs.History.{run-append}

pub line_after_lem : (n : ℕ) (t : Table) (c : Call) → line_of t ≤ line_of (after n t c)
line_after_lem n t c =
    after_cases n t c (λ u. line_of t ≤ line_of u) (λ e. go (counts_on n t c (accepted_acceptable n t c e)).line) (le_refl _)
    (λ number h. le_refl _)
  where
    go : LineMoves t (change_accepted t c).counters → line_of t ≤ (change_accepted t c).counters.vacuum_line
    go (line_stays e) = omega arith
    go (line_raised sample a b e) = omega arith

pub line-run : (n : ℕ) (t : Table) (cs : List Call) → line_of t ≤ line_of (run n t cs)
unfolding run
line-run n t [] = le_refl _
line-run n t (c ∷ cs) = le_trans (line_after_lem n t c) (line-run n (after n t c) cs)

pub line_never_falls : (n : ℕ) (before later : List Call) → line_of (reached n before) ≤ line_of (reached n (before ++ later))
line_never_falls n before later = rw run-append (line-run n (reached n before) later)
