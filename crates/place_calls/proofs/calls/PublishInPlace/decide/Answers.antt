-- What is decided on the columns that the call reads is decided on the table.
use mathlib.Core.Path.{◌∙◌}
use Rattle.model.proofs.Lent.{lent_stamps}
use Rattle.place_calls.proofs.calls.PublishInPlace.decide.Goals as goal

pub returns : goal.returns
returns c = c.decide_stamp.ensures ∙ lent_stamps _ _ _
