-- From fresh every registered txid is below 2^64 − 1, so that the held xmax is never short.
use Prim.Native.Nat.{ℕ, ◌<◌}
use mathlib.Core.List.{List, [], ◌∷◌}
use native.Mathlib.Omega.{arith}
use lib.ListN.{set, get_or}
use Rattle.kinds.specs.Kinds.{top}
use Rattle.model.specs.declared.Table.{Table}
use Rattle.model.specs.Tables.{fresh_table, txid_at}
use Rattle.model.specs.Calls.{Call, after}
use Rattle.model.specs.History.{run, reached}
use Rattle.model.proofs.Places.{Stored, new_here, as_before, stored, zeros_hold}
use Rattle.model.proofs.Accepted.{accepted_acceptable}
use Rattle.model.proofs.Calls.{after_accepted, after_cases}
use Rattle.model.proofs.Does.{Does, stands, enters, leaves, retakes, takes-pin, frees_the_pin, does}

abbrev pub BelowTop : Table → Type 0
BelowTop t = (i : ℕ) → txid_at t i < top

below_set : (t : Table) (i txid : ℕ) → txid < top → BelowTop t → (j : ℕ) → get_or (set t.txids i txid) j 0 < top
below_set t i txid h b j = go (stored 0 t.txids i txid j)
  where
    go : Stored 0 t.txids i txid j → get_or (set t.txids i txid) j 0 < top
    go (new_here p l e) = rw e h
    go (as_before d e) = rw e (b j)

below_accepted : (n : ℕ) (t : Table) (c : Call) → BelowTop t → Does n t c → BelowTop (after_accepted t c)
below_accepted n t c b (stands d e) = rw e b
below_accepted n t c b (enters number p e r k f) = rw e (below_set t _ number.0 r.below_top b)
below_accepted n t c b (leaves slot id d e o) = rw e (below_set t slot.0 0 (omega arith) b)
below_accepted n t c b (retakes slot id clock sample p e h o) = rw e b
below_accepted n t c b (takes-pin clock sample p e k o f) = rw e b
below_accepted n t c b (frees_the_pin k p e h) = rw e b

pub below_after : (n : ℕ) (t : Table) (c : Call) → BelowTop t → BelowTop (after n t c)
below_after n t c b =
    after_cases n t c BelowTop (λ e. below_accepted n t c b (does n t c (accepted_acceptable n t c e))) b (λ number h. b)

pub below_run : (n : ℕ) (t : Table) (cs : List Call) → BelowTop t → BelowTop (run n t cs)
unfolding run
below_run n t [] b = b
below_run n t (c ∷ cs) b = below_run n (after n t c) cs (below_after n t c b)

pub below_fresh : (n : ℕ) → BelowTop (fresh_table n)
unfolding fresh_table
below_fresh n i = rw (zeros_hold n i) (omega arith)

pub below_reached : (n : ℕ) (cs : List Call) → BelowTop (reached n cs)
below_reached n cs = below_run n (fresh_table n) cs (below_fresh n)
