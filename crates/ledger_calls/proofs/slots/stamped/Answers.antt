-- The reservation decides (crate's proofs/Reserving.antt).
use mathlib.Core.Path.{refl}
use Rattle.model.specs.Calls.{refusal}
use Rattle.ledger_calls.proofs.Tells.{passes, turned_down}
use Rattle.ledger_calls.proofs.Reserving.{stamp_spends}
use Rattle.ledger_calls.proofs.slots.stamped.Goals as goal

pub returns-in_err-reservation : goal.returns-in_err-reservation
unfolding refusal
returns-in_err-reservation c = turned_down _ _ _ _ c.from_residual.ensures.1 refl c.in_err-reservation.ensures

pub returns : goal.returns
returns c =
    rw (c.stays.ensures, c.plain-numbers.ensures, c.accepted.ensures)
    (stamp_spends _ _ _ (passes _ c.in_ok-reservation.ensures) c.past.ensures)
