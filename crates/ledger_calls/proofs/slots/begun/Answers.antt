-- Each exit is one case of the reservation and the lowest free slot (crate's proofs/Reserving.antt).
use Rattle.kinds.specs.Refusals.{told}
use Rattle.ledger_calls.proofs.Tells.{passes}
use Rattle.ledger_calls.proofs.Reserving.{begin-refused, begin_free, begin-full}
use Rattle.ledger_calls.proofs.slots.begun.Goals as goal

pub returns-in_err-reservation : goal.returns-in_err-reservation
returns-in_err-reservation c = begin-refused _ _ _ _ c.from_residual.ensures.1 c.in_err-reservation.ensures

pub returns-then-free-ge-SLOTS : goal.returns-then-free-ge-SLOTS
unfolding told
returns-then-free-ge-SLOTS c =
    rw (c.stays.ensures, c.plain-numbers.ensures)
    (begin-full _ _ _ (passes _ c.in_ok-reservation.ensures) c.past-spent.ensures c.lowest_free-free.ensures c.if-free-ge-SLOTS.true)

pub returns : goal.returns
returns c =
    rw (c.in_slot.ensures, c.plain-numbers-2.ensures, c.accepted.ensures)
    (begin_free _ _ _ (passes _ c.in_ok-reservation.ensures) c.past-spent.ensures c.lowest_free-free.ensures c.if-free-ge-SLOTS.false)
