-- The table has as many slots as a snapshot has places, so what was decided on its txids was decided on it (`Lent`).
use Rattle.std.proofs.Common.{refl, ◌∙◌, arith}
use Rattle.model.proofs.Lent.{slots_show, snapshot_outcome_of}
use Rattle.snap_call.proofs.create_snapshot.Goals as goal

pub returns : goal.returns
returns c =
    rw c.carry_out_snapshot.ensures (snapshot_outcome_of _ _ _ (c.decide_snap-decided.ensures ∙ slots_show _ _ _ (omega arith) refl))
