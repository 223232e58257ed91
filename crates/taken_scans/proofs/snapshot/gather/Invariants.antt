-- What is found is that of the slots so far, after what was found before (`Gathered` in Scan.antt): no more ids than slots.
use Rattle.std.proofs.Common.{take, ◌+◌, ◌≤◌}
use Rattle.taken_scans.proofs.Scan.{Gathered}
use Rattle.taken_scans.proofs.snapshot.gather.Given as goal

abbrev pub invariant-loop-id : goal.invariant-loop-id
invariant-loop-id l =
    Gathered l.fn.before l.initial.ids (take l.id-index l.slots) l.found l.ids
    × (l.found.count ≤ l.fn.before.count + l.id-index)
