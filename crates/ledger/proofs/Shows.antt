-- The ids beside an answer: those of the taken slots where it lists any, and zeros otherwise.
use Prim.Native.Nat.{ℕ, ◌-◌}
use mathlib.Core.Path.{◌≡◌, refl, sym, ap}
use mathlib.Core.Bool.{cond}
use mathlib.Core.List.{List, [], ◌∷◌}
use native.Mathlib.Omega.{arith}
use lib.Dec.{eqb}
use borrow.Author.Tests.{ne_eqb}
use lib.ListN.{length, replicate}
use Rattle.kinds.specs.Verdicts.{Verdict, Pass, Refuse}
use Rattle.settled.specs.declared.Snapshot.{Snapshot}
use Rattle.settled.specs.Snapshots.{no_snapshot}
use Rattle.model.specs.declared.Table.{Table}
use Rattle.model.specs.Tally.{active, places, snapshot_of}
use Rattle.model.specs.Calls.{Call, begin, end, snap, own, oldest, vacuum, stamp, finish, pin, unpin, pin_sample}
use Rattle.model.specs.Calls.{refusal, after, shown_accepted, shown_by, shown}
use Rattle.model.specs.Answers.{numbers_of}
use Rattle.ledger_calls.specs.declared.Did.{Did}
use Rattle.ledger_calls.specs.Deeds.{did_by}
use Rattle.ledger.specs.declared.answer.Said.{Said}
use Rattle.ledger.specs.Said.{listed_by, said_on}

-- a snapshot that lists the taken slots, or nobody
abbrev Lists : ℕ → List ℕ → Snapshot → Type 0
Lists n txids s = s.ids ≡ listed_by n s.count txids

no_ids : (n : ℕ) (ids : List ℕ) → places n ids ≡ cond (eqb (length ids) 0) (replicate n 0) (places n ids)
no_ids n [] = let e : n - 0 ≡ n = omega arith in ap (λ (k : ℕ). replicate k 0) e
no_ids n (x ∷ ids) = rw (ne_eqb (length (x ∷ ids)) 0 (λ z. omega arith))

lists_none : (n : ℕ) (txids : List ℕ) → Lists n txids (no_snapshot n)
unfolding listed_by no_snapshot
lists_none n txids = refl

lists-taken : (n : ℕ) (txids : List ℕ) (sample : ℕ) → Lists n txids (snapshot_of n txids sample)
unfolding listed_by snapshot_of
lists-taken n txids sample = no_ids n (active txids)

lists-accepted : (n : ℕ) (t : Table) (c : Call) → Lists n t.txids (shown_accepted n t c)
unfolding shown_accepted
lists-accepted n t (begin number) = lists_none n t.txids
lists-accepted n t (end slot id) = lists_none n t.txids
lists-accepted n t (snap clock sample) = lists-taken n t.txids sample
lists-accepted n t (own slot id clock sample) = lists-taken n t.txids sample
lists-accepted n t (oldest clock sample) = lists_none n t.txids
lists-accepted n t (vacuum clock sample) = lists_none n t.txids
lists-accepted n t (stamp number) = lists_none n t.txids
lists-accepted n t (finish slot id number) = lists_none n t.txids
lists-accepted n t (pin clock sample) = lists-taken n t.txids (pin_sample t sample)
lists-accepted n t (unpin k) = lists_none n t.txids

lists_by : (v : Verdict) (n : ℕ) (t : Table) (c : Call) → Lists n t.txids (shown_by v n t c)
lists_by Pass n t c = lists-accepted n t c
lists_by (Refuse r) n t c = lists_none n t.txids

-- the numbers of one call, with these ids, are what the call says
pub said_is :
    (n : ℕ) (t : Table) (c : Call) {did : Did} → did ≡ did_by n t c → {ids : List ℕ} →
    ids ≡ listed_by n did.numbers.count t.txids →
    ◌≡◌ {A = Said} (record { numbers = did.numbers; ids = ids }) (said_on n t c)
unfolding did_by said_on shown after numbers_of
said_is n t c e i =
    let shows = lists_by (refusal n t c) n t c in
    rw (i, e) (ap (λ (l : List ℕ). record { numbers = (did_by n t c).numbers; ids = l }) (sym shows))
