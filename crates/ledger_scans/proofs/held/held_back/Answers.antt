-- The walk down the pins and that down the slots, together, are what the model says (crate's proofs/Walk.antt).
use mathlib.Core.Path.{◌∙◌}
use Rattle.ledger_scans.proofs.Walk.{held_is}
use Rattle.ledger_scans.proofs.held.held_back.Goals as goal

pub returns : goal.returns
returns c =
    let pins = c.held_among-by_pins.ensures in
    c.held_among.ensures ∙ rw pins (held_is _ _ _ _)
