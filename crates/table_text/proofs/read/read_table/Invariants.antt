-- The slots before i, and then the pins before k, were read: the whole is what the lines left make (crate's proofs/Reading.antt).
use Rattle.kinds.specs.declared.TheConstants.{SLOTS}
use Rattle.table_text.proofs.Reading.{Slots, Pins}
use Rattle.table_text.proofs.read.read_table.Given as goal

abbrev pub invariant-loop-i : goal.invariant-loop-i
invariant-loop-i l = Slots SLOTS l.s l.txids l.snapshot_xmins l.at l.i

abbrev pub invariant-loop-k : goal.invariant-loop-k
invariant-loop-k l = Pins SLOTS l.s l.txids l.snapshot_xmins l.pins l.at l.k
