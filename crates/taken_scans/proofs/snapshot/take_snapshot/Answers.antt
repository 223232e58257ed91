-- What is taken into as many zeros as there are places is the snapshot (`Scan`).
use Rattle.taken_scans.proofs.Scan.{taken-shown}
use Rattle.taken_scans.proofs.snapshot.take_snapshot.Goals as goal

pub returns : goal.returns
returns c =
    let taken = c.take_into-taken.ensures in
    let a = c.args in
    taken-shown _ a.txids.now a.sample c.zeros-ids.ensures taken.value taken.ids_after
