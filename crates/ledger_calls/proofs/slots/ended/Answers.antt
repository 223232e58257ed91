-- The owner test decides (crate's proofs/Reserving.antt).
use mathlib.Core.Path.{refl}
use Rattle.model.specs.Calls.{refusal}
use Rattle.ledger_calls.proofs.Tells.{passes, turned_down}
use Rattle.ledger_calls.proofs.Reserving.{end_leaves}
use Rattle.ledger_calls.proofs.slots.ended.Goals as goal

pub returns-in_err-owner : goal.returns-in_err-owner
unfolding refusal
returns-in_err-owner c = turned_down _ _ _ _ c.from_residual.ensures.1 refl c.in_err-owner.ensures

pub returns : goal.returns
returns c =
    rw (c.in_slot.ensures, c.plain-numbers.ensures, c.accepted.ensures) (end_leaves _ _ _ _ (passes _ c.in_ok-owner.ensures))
