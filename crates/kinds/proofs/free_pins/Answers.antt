-- A repeat of 0, as many times as there are pins.
use mathlib.Core.Path.{refl}
use Rattle.kinds.specs.Kinds.{free_pins}
use Rattle.kinds.proofs.free_pins.Goals as goal

pub returns : goal.returns
unfolding free_pins
returns c = refl
