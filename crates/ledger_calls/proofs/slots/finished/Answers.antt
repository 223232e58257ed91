-- The owner test, then the reservation (crate's proofs/Reserving.antt).
use mathlib.Core.Path.{refl}
use Rattle.model.specs.Calls.{refusal}
use Rattle.ledger_calls.proofs.Tells.{passes, first_refuses, second_refuses, turned_down}
use Rattle.ledger_calls.proofs.Reserving.{finish_leaves}
use Rattle.ledger_calls.proofs.slots.finished.Goals as goal

pub returns-in_err-owner : goal.returns-in_err-owner
unfolding refusal
returns-in_err-owner c = turned_down _ _ _ _ c.from_residual.ensures.1 refl (first_refuses _ _ c.in_err-owner.ensures)

pub returns-in_err-reservation : goal.returns-in_err-reservation
unfolding refusal
returns-in_err-reservation c =
    turned_down _ _ _ _ c.from_residual-in_err-reservation.ensures.1 refl
    (second_refuses _ _ (passes _ c.in_ok-owner.ensures) c.in_err-reservation.ensures)

pub returns : goal.returns
returns c =
    rw (c.in_slot.ensures, c.plain-numbers.ensures, c.accepted.ensures)
    (finish_leaves _ _ _ (passes _ c.in_ok-reservation.ensures) c.past.ensures _ _ (passes _ c.in_ok-owner.ensures))
