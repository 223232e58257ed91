-- The table has as many slots as a snapshot has places, so what was decided on its columns was decided on it (`Lent`).
use Rattle.std.proofs.Common.{◌∙◌, arith}
use Rattle.model.proofs.Lent.{lent-pins, snapshot_outcome_of}
use Rattle.pin_call.proofs.create_pinned_snapshot.Goals as goal

pub returns : goal.returns
returns c =
    rw c.carry_out_snapshot.ensures (snapshot_outcome_of _ _ _ (c.decide_pin-decided.ensures ∙ lent-pins _ _ _ _ (omega arith)))
