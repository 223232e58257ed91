-- The owner test, then the observation (crate's proofs/Viewing.antt).
use mathlib.Core.Path.{refl}
use Rattle.model.specs.Calls.{refusal}
use Rattle.ledger_calls.proofs.Tells.{passes, first_refuses, second_refuses, turned_down}
use Rattle.ledger_calls.proofs.Viewing.{own_retains}
use Rattle.ledger_calls.proofs.views.owned.Goals as goal

pub returns-in_err-owner : goal.returns-in_err-owner
unfolding refusal
returns-in_err-owner c = turned_down _ _ _ _ c.from_residual.ensures.1 refl (first_refuses _ _ c.in_err-owner.ensures)

pub returns-in_err-observation : goal.returns-in_err-observation
unfolding refusal
returns-in_err-observation c =
    turned_down _ _ _ _ c.from_residual-in_err-observation.ensures.1 refl
    (second_refuses _ _ (passes _ c.in_ok-owner.ensures) c.in_err-observation.ensures)

pub returns : goal.returns
returns c =
    rw (c.in_slot.ensures, c.shown-numbers.ensures, c.accepted.ensures)
    (own_retains _ _ _ _ (passes _ c.in_ok-observation.ensures) c.seen-counters.ensures c.in_flight-flight.ensures _ _
    (passes _ c.in_ok-owner.ensures))
