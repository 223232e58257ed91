-- The fresh table, what its slots and pins hold, and columns that are lent.
use Rattle.std.specs.Prelude.{ℕ, List, [], replicate, get_or, take}
use Rattle.kinds.specs.Kinds.{free_pins}
use Rattle.model.specs.declared.Counters.{Counters}
use Rattle.model.specs.declared.Table.{Table}
use Rattle.model.specs.declared.Columns.{Columns}

abbrev pub counted : ℕ → ℕ → ℕ → Counters
counted clock sample line = record { clock = clock; sampled_clock = sample; vacuum_line = line }

-- n slots (0, 0), all pins free, the other three 1
unfoldable pub fresh_table : ℕ → Table
fresh_table n =
    record { txids = replicate n 0; snapshot_xmins = replicate n 0; pins = free_pins; counters = counted 1 1 1 }

-- what slot i holds: its txid, 0 for none, and its snapshot_xmin
abbrev pub txid_at : Table → ℕ → ℕ
txid_at t i = get_or t.txids i 0

abbrev pub xmin_at : Table → ℕ → ℕ
xmin_at t i = get_or t.snapshot_xmins i 0

-- what pin k holds: the xmin of its snapshot, 0 for free
abbrev pub pin_at : Table → ℕ → ℕ
pin_at t k = get_or t.pins k 0

-- the vacuum line, the clock and its sample
abbrev pub line_of : Table → ℕ
line_of t = t.counters.vacuum_line

abbrev pub clock_of : Table → ℕ
clock_of t = t.counters.clock

abbrev pub sample_of : Table → ℕ
sample_of t = t.counters.sampled_clock

-- columns and counters that are lent are a table
abbrev pub lent : List ℕ → List ℕ → List ℕ → Counters → Table
lent txids xmins pins was = record { txids = txids; snapshot_xmins = xmins; pins = pins; counters = was }

abbrev pub lent_by : Columns → Table
lent_by c = lent c.txids.now c.snapshot_xmins.now c.pins.now c.counters

-- .. a call that reads no snapshot_xmin and no pin is lent none
abbrev pub lent_txids : List ℕ → Counters → Table
lent_txids txids was = lent txids [] [] was

-- .. a snapshot has n places, so a snapshot call is lent no more than n slots
abbrev pub lent_slots : ℕ → List ℕ → Counters → Table
lent_slots n txids was = lent_txids (take n txids) was

-- .. with the pins, for a pinned snapshot; and for a release the pins alone
abbrev pub lent_to_pin : ℕ → List ℕ → List ℕ → Counters → Table
lent_to_pin n txids pins was = lent (take n txids) [] pins was

abbrev pub lent_pins : List ℕ → Counters → Table
lent_pins pins was = lent [] [] pins was
