-- The owner test reads a slot below n only, so it says the same of the first n slots; and with it the whole of own's tests.
use Prim.Native.Nat.{ℕ}
use mathlib.Core.Path.{◌≡◌, refl}
use mathlib.Core.Bool.{Bool, true, false}
use mathlib.Core.List.{List}
use lib.Dec.{leb}
use lib.ListN.{take}
use lib.Seq.{get_or-take}
use borrow.Author.Tests.{leb-false}
use Rattle.kinds.specs.declared.SlotNo.{SlotNo}
use Rattle.kinds.specs.declared.Txid.{Txid}
use Rattle.kinds.specs.Verdicts.{then}
use Rattle.model.specs.declared.Counters.{Counters}
use Rattle.model.specs.Tables.{lent_slots}
use Rattle.model.specs.Tests.{owner_test, observation_test}
use Rattle.model.specs.Calls.{own, refusal}

pub owner-cut :
    (n : ℕ) (txids : List ℕ) (slot : SlotNo) (id : Txid) → owner_test n (take n txids) slot id ≡ owner_test n txids slot id
owner-cut n txids slot id = go (leb n slot.0) refl
  where
    go : (b : Bool) → leb n slot.0 ≡ b → owner_test n (take n txids) slot id ≡ owner_test n txids slot id
    go true e = rw e refl
    go false e = rw (get_or-take n txids slot.0 0 (leb-false n slot.0 e)) refl

pub own_refusal :
    (n : ℕ) (txids : List ℕ) (was : Counters) (slot : SlotNo) (id : Txid) (clock sample : ℕ) →
    refusal n (lent_slots n txids was) (own slot id clock sample)
    ≡ then (owner_test n txids slot id) (observation_test was.clock clock sample)
unfolding refusal
own_refusal n txids was slot id clock sample = rw (owner-cut n txids slot id)
