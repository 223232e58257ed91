-- The number is read off how the replay ended (crate's proofs/Answers.antt).
use mathlib.Core.Path.{ap, ◌∙◌}
use Rattle.std.specs.Prelude.{Ok}
use Rattle.exports.specs.Status.{done, refused, unwritten}
use Rattle.exports.proofs.Answers.{all_is_trace, refused_is_none}
use Rattle.exports.proofs.sockhurdle_replay_to.Goals as goal

pub returns-in-Ok-All : goal.returns-in-Ok-All
returns-in-Ok-All c = done (all_is_trace c.replay_to.ensures (c.in-Ok-All.is ∙ ap Ok c.in-Ok-All.field-0-is))

pub returns-in-Ok-Refused : goal.returns-in-Ok-Refused
returns-in-Ok-Refused c = refused (refused_is_none c.replay_to.ensures (c.in-Ok-Refused.is ∙ ap Ok c.in-Ok-Refused.field-0-is))

pub returns-in-Err : goal.returns-in-Err
returns-in-Err c = unwritten
