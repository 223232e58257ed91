-- A pin retains what it holds, so the second scan is over the taken pins.
use Rattle.model.proofs.Tally.{retained_self}
use Rattle.horizon.proofs.oldest_of.Goals as goal

pub returns : goal.returns
returns c = rw (c.oldest_retained.ensures, c.oldest_retained-low.ensures, retained_self)
