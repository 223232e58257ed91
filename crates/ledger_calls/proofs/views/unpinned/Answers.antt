-- The release test decides (crate's proofs/Viewing.antt).
use mathlib.Core.Path.{refl}
use Rattle.model.specs.Calls.{refusal}
use Rattle.ledger_calls.proofs.Tells.{passes, turned_down}
use Rattle.ledger_calls.proofs.Viewing.{unpin_frees}
use Rattle.ledger_calls.proofs.views.unpinned.Goals as goal

pub returns-in_err-release : goal.returns-in_err-release
unfolding refusal
returns-in_err-release c = turned_down _ _ _ _ c.from_residual.ensures.1 refl c.in_err-release.ensures

pub returns : goal.returns
returns c =
    rw (c.in_pin.ensures, c.plain-numbers.ensures, c.accepted.ensures) (unpin_frees _ _ _ (passes _ c.in_ok-release.ensures))
