-- A snapshot of zeros, place by place.
use Rattle.settled.specs.Snapshots.{no_snapshot}
use Rattle.settled.proofs.no_snapshot.Goals as goal

pub returns : goal.returns
unfolding no_snapshot
returns c = cc
