-- Each callee's promise is the whole one; a descriptor is the same number after it was handed over (`sent_to`, in Pieces.antt).
use mathlib.Core.Path.{sym, ◌∙◌}
use mir.Facts.{to_z-of_z}
use Rattle.replay.proofs.Pieces.{sent_to}
use Rattle.replay.proofs.out.replay_to.Goals as goal

pub broken_to-requires : goal.broken_to-requires
broken_to-requires c = sym c.read_trace.ensures ∙ c.in-Err.is

pub run_to-requires : goal.run_to-requires
run_to-requires c = sym c.read_trace.ensures ∙ c.in-Ok.is

pub returns-in-Err : goal.returns-in-Err
returns-in-Err c =
    let back = to_z-of_z c.ranges.to in
    sent_to back c.broken_to.ensures

pub returns-in-Ok : goal.returns-in-Ok
returns-in-Ok c =
    let back = to_z-of_z c.ranges.to in
    sent_to back c.run_to.ensures
