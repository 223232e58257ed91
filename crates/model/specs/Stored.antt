-- What storing a change leaves of a column of n places: in a table, whose columns have as many, it is what the change says.
use Rattle.std.specs.Prelude.{ℕ, cond, List, ltb, set}
use Rattle.kinds.specs.Kinds.{pin_count}
use Rattle.model.specs.declared.change.SlotChange.{SlotChange}
use Rattle.model.specs.declared.change.SlotChange.TheVariants.{Stays, Enters, Leaves, Retains, Pins}

-- nothing is stored past the last place
unfoldable pub stored_at : ℕ → List ℕ → ℕ → ℕ → List ℕ
stored_at n column i x = cond (ltb i n) (set column i x) column

unfoldable pub stored_txid : ℕ → SlotChange → List ℕ → List ℕ
stored_txid n Stays txids = txids
stored_txid n (Enters slot txid) txids = stored_at n txids slot.0 txid.0
stored_txid n (Leaves slot) txids = stored_at n txids slot.0 0
stored_txid n (Retains slot xmin) txids = txids
stored_txid n (Pins pin xmin) txids = txids

unfoldable pub stored_xmin : ℕ → SlotChange → List ℕ → List ℕ
stored_xmin n Stays xmins = xmins
stored_xmin n (Enters slot txid) xmins = stored_at n xmins slot.0 txid.0
stored_xmin n (Leaves slot) xmins = stored_at n xmins slot.0 0
stored_xmin n (Retains slot xmin) xmins = stored_at n xmins slot.0 xmin
stored_xmin n (Pins pin xmin) xmins = xmins

unfoldable pub stored_pin : SlotChange → List ℕ → List ℕ
stored_pin Stays pins = pins
stored_pin (Enters slot txid) pins = pins
stored_pin (Leaves slot) pins = pins
stored_pin (Retains slot xmin) pins = pins
stored_pin (Pins pin xmin) pins = stored_at pin_count pins pin.0 xmin
