-- In columns of n places, storing a change leaves what the change says.
use Prim.Native.Nat.{ℕ}
use mathlib.Core.Path.{◌≡◌, refl, sym, ap, ◌∙◌}
use mathlib.Core.Bool.{Bool, true, false, cond}
use mathlib.Core.List.{List}
use native.Mathlib.Omega.{arith}
use lib.Dec.{ltb}
use lib.ListN.{length, set, length-set}
use lib.Seq.{set_out}
use borrow.Author.Tests.{ltb-false}
use Rattle.kinds.specs.Kinds.{pin_count}
use Rattle.model.specs.declared.Table.{Table}
use Rattle.model.specs.declared.change.Change.{Change}
use Rattle.model.specs.declared.change.SlotChange.{SlotChange}
use Rattle.model.specs.declared.change.SlotChange.TheVariants.{Stays, Enters, Leaves, Retains, Pins}
use Rattle.model.specs.Tables.{lent}
use Rattle.model.specs.Changes.{txids_after, xmins_after, pins_after, applied}
use Rattle.model.specs.Stored.{stored_at, stored_txid, stored_xmin, stored_pin}

module _ (n : ℕ) (column : List ℕ) (h : length column ≡ n) where
  stored_set : (i x : ℕ) → stored_at n column i x ≡ set column i x
  unfolding stored_at
  stored_set i x = go (ltb i n) refl
    where
      go : (b : Bool) → ltb i n ≡ b → cond b (set column i x) column ≡ set column i x
      go true e = refl
      go false e = let k = ltb-false i n e in sym (set_out column i x (omega arith))

  pub stored_txid_lem : (c : SlotChange) → stored_txid n c column ≡ txids_after c column
  unfolding stored_txid
  stored_txid_lem Stays = refl
  stored_txid_lem (Enters slot txid) = stored_set slot.0 txid.0
  stored_txid_lem (Leaves slot) = stored_set slot.0 0
  stored_txid_lem (Retains slot xmin) = refl
  stored_txid_lem (Pins pin xmin) = refl

  pub stored_xmin_lem : (c : SlotChange) → stored_xmin n c column ≡ xmins_after c column
  unfolding stored_xmin
  stored_xmin_lem Stays = refl
  stored_xmin_lem (Enters slot txid) = stored_set slot.0 txid.0
  stored_xmin_lem (Leaves slot) = stored_set slot.0 0
  stored_xmin_lem (Retains slot xmin) = stored_set slot.0 xmin
  stored_xmin_lem (Pins pin xmin) = refl

  -- the column stays as long as it was
  pub stored_txid_long : (c : SlotChange) → length (stored_txid n c column) ≡ length column
  stored_txid_long c = ap length (stored_txid_lem c) ∙ long c
    where
      long : (c : SlotChange) → length (txids_after c column) ≡ length column
      long Stays = refl
      long (Enters slot txid) = length-set column slot.0 txid.0
      long (Leaves slot) = length-set column slot.0 0
      long (Retains slot xmin) = refl
      long (Pins pin xmin) = refl

  pub stored_xmin_long : (c : SlotChange) → length (stored_xmin n c column) ≡ length column
  stored_xmin_long c = ap length (stored_xmin_lem c) ∙ long c
    where
      long : (c : SlotChange) → length (xmins_after c column) ≡ length column
      long Stays = refl
      long (Enters slot txid) = length-set column slot.0 txid.0
      long (Leaves slot) = length-set column slot.0 0
      long (Retains slot xmin) = length-set column slot.0 xmin
      long (Pins pin xmin) = refl

-- the pins likewise
module _ (pins : List ℕ) (h : length pins ≡ pin_count) where
  pub stored_pin_lem : (c : SlotChange) → stored_pin c pins ≡ pins_after c pins
  unfolding stored_pin
  stored_pin_lem Stays = refl
  stored_pin_lem (Enters slot txid) = refl
  stored_pin_lem (Leaves slot) = refl
  stored_pin_lem (Retains slot xmin) = refl
  stored_pin_lem (Pins pin xmin) = stored_set pin_count pins h pin.0 xmin

  pub stored_pin_long : (c : SlotChange) → length (stored_pin c pins) ≡ length pins
  stored_pin_long c = ap length (stored_pin_lem c) ∙ long c
    where
      long : (c : SlotChange) → length (pins_after c pins) ≡ length pins
      long Stays = refl
      long (Enters slot txid) = refl
      long (Leaves slot) = refl
      long (Retains slot xmin) = refl
      long (Pins pin xmin) = length-set pins pin.0 xmin

-- three stores and the counters are the change
pub stored_applied :
    (n : ℕ) (t : Table) (c : Change) {txids xmins pins : List ℕ} → length t.txids ≡ n →
    length t.snapshot_xmins ≡ n → length t.pins ≡ pin_count → txids ≡ stored_txid n c.slot t.txids →
    xmins ≡ stored_xmin n c.slot t.snapshot_xmins → pins ≡ stored_pin c.slot t.pins →
    lent txids xmins pins c.counters ≡ applied t c
stored_applied n t c h k l a b d =
    rw (
      a ∙ stored_txid_lem n t.txids h c.slot,
      b ∙ stored_xmin_lem n t.snapshot_xmins k c.slot,
      d ∙ stored_pin_lem t.pins l c.slot,
    )
