-- The observation, then the lowest free pin (crate's proofs/Viewing.antt).
use mathlib.Core.Path.{refl}
use Rattle.kinds.specs.Refusals.{told}
use Rattle.model.specs.Calls.{refusal}
use Rattle.ledger_calls.proofs.Tells.{passes, first_refuses, turned_down}
use Rattle.ledger_calls.proofs.Viewing.{pin_takes, pin-full}
use Rattle.ledger_calls.proofs.views.pinned.Goals as goal

pub returns-in_err-observation : goal.returns-in_err-observation
unfolding refusal
returns-in_err-observation c =
    turned_down _ _ _ _ c.from_residual.ensures.1 refl (first_refuses _ _ c.in_err-observation.ensures)

pub returns-then-free-ge-PINS : goal.returns-then-free-ge-PINS
unfolding told
returns-then-free-ge-PINS c =
    pin-full _ _ _ _ (passes _ c.in_ok-observation.ensures) c.lowest_free-free.ensures c.if-free-ge-PINS.true

pub returns : goal.returns
returns c =
    rw (c.in_pin.ensures, c.shown-numbers.ensures, c.accepted.ensures)
    (pin_takes _ _ _ _ (passes _ c.in_ok-observation.ensures) c.seen-counters.ensures c.lowest_free-free.ensures
    c.if-free-ge-PINS.false c.max-used.ensures c.in_flight-flight.ensures)
