-- A deed leaves what the change does.
use Prim.Native.Nat.{ℕ}
use mathlib.Core.Path.{◌≡◌, refl}
use lib.Seq.{set-get_or}
use Rattle.model.specs.declared.Counters.{Counters}
use Rattle.model.specs.declared.Table.{Table}
use Rattle.model.specs.declared.change.SlotChange.{SlotChange}
use Rattle.model.specs.declared.change.SlotChange.TheVariants.{Stays, Enters, Leaves, Retains, Pins}
use Rattle.model.specs.Changes.{change, applied}
use Rattle.model.specs.Calls.{Call, change_of, after}
use Rattle.ledger_calls.specs.Deeds.{deed_by, did_by, left}

left-applied : (t : Table) (k : Counters) (s : SlotChange) → left t (deed_by t s k) ≡ applied t (change s k)
left-applied t k Stays = refl
left-applied t k (Enters slot txid) = refl
left-applied t k (Leaves slot) = refl
left-applied t k (Retains slot xmin) = rw (set-get_or t.txids slot.0 0)
left-applied t k (Pins pin xmin) = refl

pub left_after : (n : ℕ) (t : Table) (c : Call) → left t (did_by n t c).deed ≡ after n t c
unfolding did_by after
left_after n t c = left-applied t (change_of n t c).counters (change_of n t c).slot
