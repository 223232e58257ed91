-- What is found is that of the slots of the turns so far (`Gathered` in Scan.antt).
use Rattle.std.proofs.Common.{◌*◌, take}
use Rattle.taken_scans.proofs.Scan.{Gathered}
use Rattle.taken_scans.proofs.snapshot.take_into.Given as goal

abbrev pub invariant-loop-eight : goal.invariant-loop-eight
invariant-loop-eight l =
    Gathered (record { count = 0; low = l.sample; high = 0 }) l.initial.ids (take (8 * l.eight-index) (take l.end l.txids)) l.found l.ids
