-- The invariant: from place i on the txids differ, and each has set its mark (crate's proofs/Marks.antt).
use Rattle.differ.proofs.Marks.{Seen}
use Rattle.differ.proofs.txids_differ.Given as goal

abbrev pub invariant-loop-i : goal.invariant-loop-i
invariant-loop-i l = Seen 4096 l.marks l.txids l.i
