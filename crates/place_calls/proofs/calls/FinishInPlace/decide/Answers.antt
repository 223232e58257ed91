-- What is decided on the columns that the call reads is decided on the table.
use mathlib.Core.Path.{refl, ◌∙◌}
use Rattle.model.proofs.Lent.{lent_decides}
use Rattle.place_calls.proofs.calls.FinishInPlace.decide.Goals as goal

pub returns : goal.returns
returns c = c.decide_finish.ensures ∙ lent_decides _ _ _ refl
