-- What a change leaves of a table. What it doesn't name stays as it was.
use Rattle.std.specs.Prelude.{ℕ, ◌+◌, List, set}
use Rattle.model.specs.declared.Counters.{Counters}
use Rattle.model.specs.declared.Table.{Table}
use Rattle.model.specs.declared.change.SlotChange.{SlotChange}
use Rattle.model.specs.declared.change.SlotChange.TheVariants.{Stays, Enters, Leaves, Retains, Pins}
use Rattle.model.specs.declared.change.Change.{Change}
use Rattle.model.specs.declared.answer.Decision.{Decision}
use Rattle.kinds.specs.declared.refusal.Refusal.{Refusal}
use Rattle.model.specs.Answer.{Refused}
use Rattle.model.specs.Tables.{counted}

-- a reservation moves the clock past the number
abbrev pub past_number : ℕ → Counters → Counters
past_number number k = counted (number + 1) k.sampled_clock k.vacuum_line

-- an observation: clock becomes the given clock, sampled_clock the given sample
abbrev pub observed : ℕ → ℕ → Counters → Counters
observed clock sample k = counted clock sample k.vacuum_line

abbrev pub with_line : ℕ → Counters → Counters
with_line line k = counted k.clock k.sampled_clock line

abbrev pub change : SlotChange → Counters → Change
change s k = record { slot = s; counters = k }

-- a refused call changes nothing
abbrev pub refused_decision : Counters → Refusal → Decision
refused_decision was r = record { change = change Stays was; answer = Refused r }

abbrev pub txids_after : SlotChange → List ℕ → List ℕ
txids_after Stays txids = txids
txids_after (Enters slot txid) txids = set txids slot.0 txid.0
txids_after (Leaves slot) txids = set txids slot.0 0
txids_after (Retains slot xmin) txids = txids
txids_after (Pins pin xmin) txids = txids

abbrev pub xmins_after : SlotChange → List ℕ → List ℕ
xmins_after Stays xmins = xmins
xmins_after (Enters slot txid) xmins = set xmins slot.0 txid.0
xmins_after (Leaves slot) xmins = set xmins slot.0 0
xmins_after (Retains slot xmin) xmins = set xmins slot.0 xmin
xmins_after (Pins pin xmin) xmins = xmins

abbrev pub pins_after : SlotChange → List ℕ → List ℕ
pins_after Stays pins = pins
pins_after (Enters slot txid) pins = pins
pins_after (Leaves slot) pins = pins
pins_after (Retains slot xmin) pins = pins
pins_after (Pins pin xmin) pins = set pins pin.0 xmin

-- the table that a change leaves
abbrev pub applied : Table → Change → Table
applied t c =
    record {
      txids = txids_after c.slot t.txids;
      snapshot_xmins = xmins_after c.slot t.snapshot_xmins;
      pins = pins_after c.slot t.pins;
      counters = c.counters;
    }
