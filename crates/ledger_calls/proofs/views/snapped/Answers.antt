-- The observation decides (crate's proofs/Viewing.antt).
use mathlib.Core.Path.{refl}
use Rattle.model.specs.Calls.{refusal}
use Rattle.ledger_calls.proofs.Tells.{passes, turned_down}
use Rattle.ledger_calls.proofs.Viewing.{snap_shows}
use Rattle.ledger_calls.proofs.views.snapped.Goals as goal

pub returns-in_err-observation : goal.returns-in_err-observation
unfolding refusal
returns-in_err-observation c = turned_down _ _ _ _ c.from_residual.ensures.1 refl c.in_err-observation.ensures

pub returns : goal.returns
returns c =
    rw (c.stays.ensures, c.shown-numbers.ensures, c.accepted.ensures)
    (snap_shows _ _ _ _ (passes _ c.in_ok-observation.ensures) c.seen.ensures c.in_flight-flight.ensures)
