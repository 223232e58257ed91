-- What a call changes, by its verdict: accepted, or refused and what that leaves.
use Prim.Native.Nat.{ℕ, ◌≤◌}
use mathlib.Core.Path.{◌≡◌, refl, ap}
use Rattle.kinds.specs.declared.refusal.Refusal.{Refusal}
use Rattle.kinds.specs.Verdicts.{Verdict, Pass, Refuse}
use Rattle.kinds.specs.Refusals.{consumed}
use Rattle.model.specs.declared.Table.{Table}
use Rattle.model.specs.declared.change.Change.{Change}
use Rattle.model.specs.declared.change.SlotChange.TheVariants.{Stays}
use Rattle.model.specs.Tables.{clock_of}
use Rattle.model.specs.Changes.{change, past_number, applied}
use Rattle.model.specs.Calls.{Call, refusal, change_accepted, spent, change_by, change_of, after}
use Rattle.model.specs.History.{Accepts}
use Rattle.model.proofs.Refused.{Declined, stays, spends, declined}

-- the table after an accepted call, and what a refused one changes
abbrev pub after_accepted : Table → Call → Table
after_accepted t c = applied t (change_accepted t c)

abbrev pub change_refused : Table → Refusal → Change
change_refused t r = change Stays (spent (consumed r) t.counters)

-- a fact of a verdict and the change, from the accepted call and from the refused one
pub by_verdict :
    (n : ℕ) (t : Table) (c : Call) (P : Verdict → Change → Type 0) → (Accepts n t c → P Pass (change_accepted t c)) →
    ((r : Refusal) → Declined n t c r → P (Refuse r) (change_refused t r)) → P (refusal n t c) (change_of n t c)
unfolding change_of
by_verdict n t c P a b = go (refusal n t c) refl
  where
    go : (v : Verdict) → refusal n t c ≡ v → P v (change_by v t c)
    go Pass e = a e
    go (Refuse r) e = b r (declined n t c r e)

-- a fact of the table after a call: of the accepted call's table, of the table as it was, and of a table whose clock alone
-- went past a number from it on
pub after_cases :
    (n : ℕ) (t : Table) (c : Call) (P : Table → Type 0) → (Accepts n t c → P (after_accepted t c)) → P t →
    ((number : ℕ) → clock_of t ≤ number → P (applied t (change Stays (past_number number t.counters)))) → P (after n t c)
unfolding consumed spent after
after_cases n t c P a s w = by_verdict n t c (λ v d. P (applied t d)) a other
  where
    other : (r : Refusal) → Declined n t c r → P (applied t (change_refused t r))
    other r (stays p) = rw p s
    other r (spends number p q h f) = rw q (w number.0 h.from_clock)

pub after-accepted : (n : ℕ) (t : Table) (c : Call) → Accepts n t c → after n t c ≡ after_accepted t c
unfolding change_of after
after-accepted n t c e = ap (λ (v : Verdict). applied t (change_by v t c)) e
