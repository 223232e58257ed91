use Rattle.std.proofs.Common.{◌≡◌, ◌∙◌}
use Rattle.record_check.proofs.Runs.{other_length}
use Rattle.record_check.proofs.check_run.Goals as goal

pub returns-then-slots-ne-SLOTS : goal.returns-then-slots-ne-SLOTS
returns-then-slots-ne-SLOTS c = other_length _ _ _ c.if-slots-ne-SLOTS.true

pub returns : goal.returns
returns c = c.check_table.ensures ∙ rw (c.txids_of.ensures, c.xmins_of.ensures)
