-- What is decided on the columns that the call reads is decided on the table.
use mathlib.Core.Path.{◌∙◌}
use Rattle.model.proofs.Lent.{lent_releases}
use Rattle.place_pins.proofs.calls.ReleaseInPlace.decide.Goals as goal

pub returns : goal.returns
returns c = c.decide_unpin.ensures ∙ lent_releases _ _ _
