-- Over any calls from fresh, the taken slots are the accepted begins less the accepted ends and finishes.
use Prim.Native.Nat.{ℕ, ◌+◌}
use mathlib.Core.Path.{◌≡◌, refl, ap}
use mathlib.Core.List.{List, [], ◌∷◌}
use native.Mathlib.Omega.{arith}
use lib.ListN.{length, set}
use Rattle.kinds.specs.declared.SlotNo.{SlotNo}
use Rattle.kinds.specs.declared.Txid.{Txid}
use Rattle.kinds.specs.Verdicts.{Pass}
use Rattle.model.specs.declared.Table.{Table}
use Rattle.model.specs.Tally.{active, lowest_empty}
use Rattle.model.specs.Tables.{fresh_table, txid_at, clock_of}
use Rattle.model.specs.Changes.{applied}
use Rattle.model.specs.Calls.{Call, refusal, after}
use Rattle.model.specs.Deeds.{opens, closes}
use Rattle.model.specs.Accepted.{Owns, Free, Reserves}
use Rattle.model.specs.Facts.{Good}
use Rattle.model.specs.History.{run, reached}
use Rattle.model.specs.Counts.{counts, accepted_from, begins, ends_and_finishes, taken_slots}
use Rattle.model.proofs.Tally.{taken-empty, taken-one, active-set, active-zeros, lowest_empty_lem}
use Rattle.model.proofs.Tests.{free_lowest}
use Rattle.model.proofs.Accepted.{accepted_acceptable}
use Rattle.model.proofs.Transactions.{registered_taken}
use Rattle.model.proofs.Calls.{after_accepted, by_verdict}
use Rattle.model.proofs.Does.{Does, stands, enters, leaves, retakes, takes-pin, frees_the_pin, does}
use Rattle.model.proofs.Moves.{good-fresh}
use Rattle.model.proofs.Facts.{good-after}

emptied_counts :
    (n : ℕ) (t : Table) (slot : SlotNo) (id : Txid) → Good n t → Owns n t slot id →
    length (active (set t.txids slot.0 0)) + 1 ≡ length (active t.txids)
emptied_counts n t slot id g o =
    omega (
      arith,
      active-set t.txids slot.0 0 (rw g.txid_column o.inside),
      taken-one (txid_at t slot.0) (registered_taken t slot id o.registered),
    )

entered_counts :
    (n : ℕ) (t : Table) (number : ℕ) → Good n t → Reserves (clock_of t) number → Free n t →
    length (active (set t.txids (lowest_empty t.txids) number)) ≡ length (active t.txids) + 1
entered_counts n t number g r f =
    omega (
      arith,
      active-set t.txids (lowest_empty t.txids) number (rw g.txid_column (free_lowest n t f)),
      taken-empty (txid_at t (lowest_empty t.txids)) (lowest_empty_lem t.txids),
      taken-one number (λ z. omega arith),
    )

count_accepted :
    (n : ℕ) (t : Table) (c : Call) → Good n t → Does n t c →
    taken_slots (after_accepted t c) + counts Pass (closes c) ≡ taken_slots t + counts Pass (opens c)
count_accepted n t c g (stands d e) = rw (e, d)
count_accepted n t c g (enters number p e r k f) = rw (e, p) (omega (arith, entered_counts n t number.0 g r f))
count_accepted n t c g (leaves slot id d e o) = rw (e, d) (omega (arith, emptied_counts n t slot id g o))
count_accepted n t c g (retakes slot id clock sample p e h o) = rw (e, p)
count_accepted n t c g (takes-pin clock sample p e k o f) = rw (e, p)
count_accepted n t c g (frees_the_pin k p e h) = rw (e, p)

count_after :
    (n : ℕ) (t : Table) (c : Call) → Good n t →
    taken_slots (after n t c) + counts (refusal n t c) (closes c) ≡ taken_slots t + counts (refusal n t c) (opens c)
unfolding after
count_after n t c g =
    by_verdict n t c (λ v d. taken_slots (applied t d) + counts v (closes c) ≡ taken_slots t + counts v (opens c))
    (λ e. count_accepted n t c g (does n t c (accepted_acceptable n t c e))) (λ r f. refl)

count_run :
    (n : ℕ) (t : Table) (cs : List Call) → Good n t →
    taken_slots (run n t cs) + accepted_from closes n t cs ≡ taken_slots t + accepted_from opens n t cs
unfolding run accepted_from
count_run n t [] g = refl
count_run n t (c ∷ cs) g = omega (arith, count_after n t c g, count_run n (after n t c) cs (good-after n t c g))

fresh_none : (n : ℕ) → taken_slots (fresh_table n) ≡ 0
unfolding fresh_table
fresh_none n = ap length (active-zeros n)

pub taken-counted : (n : ℕ) (cs : List Call) → taken_slots (reached n cs) + ends_and_finishes n cs ≡ begins n cs
taken-counted n cs = omega (arith, count_run n (fresh_table n) cs (good-fresh n), fresh_none n)
