-- How far the clock can come without an observation: each call moves it by 2^32 + 1 at most, since a number that lies farther
-- is refused and the clock goes one past the number.
use Prim.Native.Nat.{ℕ, ◌+◌, ◌*◌, ◌≤◌}
use mathlib.Core.Path.{◌≡◌}
use mathlib.Core.Bool.{false, true≢false}
use mathlib.Core.List.{List, [], ◌∷◌}
use native.Mathlib.Omega.{arith}
use lib.ListN.{length}
use Rattle.kinds.specs.declared.refusal.Refusal.{Refusal}
use Rattle.kinds.specs.Refusals.{consumed}
use Rattle.model.specs.declared.Table.{Table}
use Rattle.model.specs.Tables.{fresh_table, clock_of}
use Rattle.model.specs.Tests.{farthest}
use Rattle.model.specs.Calls.{Call, begin, end, snap, own, oldest, vacuum, stamp, finish, pin, unpin, change_accepted}
use Rattle.model.specs.Calls.{spent, after}
use Rattle.model.specs.Accepted.{Acceptable}
use Rattle.model.specs.History.{run, reached, Accepts, Never}
use Rattle.model.specs.Observing.{observing}
use Rattle.model.proofs.Accepted.{accepted_acceptable}
use Rattle.model.proofs.Refused.{Declined, stays, spends}
use Rattle.model.proofs.Calls.{change_refused, by_verdict}
use Rattle.model.proofs.Never.{never_head, never_tail}

clock_accepted :
    (n : ℕ) (t : Table) (c : Call) → observing c ≡ false → Acceptable n t c →
    (change_accepted t c).counters.clock ≤ clock_of t + (farthest + 1)
unfolding change_accepted
clock_accepted n t (begin number) o (r, f) = omega (arith, r.near)
clock_accepted n t (end slot id) o a = omega arith
clock_accepted n t (snap clock sample) o a = absurd (true≢false o)
clock_accepted n t (own slot id clock sample) o a = absurd (true≢false o)
clock_accepted n t (oldest clock sample) o a = absurd (true≢false o)
clock_accepted n t (vacuum clock sample) o a = absurd (true≢false o)
clock_accepted n t (stamp number) o r = omega (arith, r.near)
clock_accepted n t (finish slot id number) o (a, r) = omega (arith, r.near)
clock_accepted n t (pin clock sample) o a = absurd (true≢false o)
clock_accepted n t (unpin k) o a = omega arith

-- refusal 1 too goes one past a number that may be reserved
pub clock_after_lem :
    (n : ℕ) (t : Table) (c : Call) → (Accepts n t c → observing c ≡ false) →
    clock_of (after n t c) ≤ clock_of t + (farthest + 1)
unfolding consumed spent after
clock_after_lem n t c o =
    by_verdict n t c (λ v d. d.counters.clock ≤ clock_of t + (farthest + 1))
    (λ e. clock_accepted n t c (o e) (accepted_acceptable n t c e)) other
  where
    other : (r : Refusal) → Declined n t c r → (change_refused t r).counters.clock ≤ clock_of t + (farthest + 1)
    other r (stays p) = rw p (omega arith)
    other r (spends number p q h f) = rw q (omega (arith, h.near))

pub clock_run :
    (n : ℕ) (t : Table) (cs : List Call) → Never n t observing cs →
    clock_of (run n t cs) ≤ clock_of t + length cs * (farthest + 1)
unfolding run
clock_run n t [] k = omega arith
clock_run n t (c ∷ cs) k =
    let a = clock_after_lem n t c (never_head n t observing c cs k) in
    let b = clock_run n (after n t c) cs (never_tail n t observing c cs k) in
    omega arith

-- from fresh, after k calls none of which is an accepted observation, the clock is at most 1 + k·(2^32 + 1)
pub clock_bounded :
    (n : ℕ) (cs : List Call) → Never n (fresh_table n) observing cs →
    clock_of (reached n cs) ≤ 1 + length cs * (farthest + 1)
unfolding fresh_table
clock_bounded n cs k = clock_run n (fresh_table n) cs k
