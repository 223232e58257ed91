-- The invariant, `Side` (crate's proofs/Side.antt): the table is the one that the calls of the list reach, and of a trace the list has
-- room for what is left. So each record agrees, and no arm that answers no is reached.
use Prim.Native.Nat.{◌-◌, ◌≤◌}
use mathlib.Core.Path.{◌≡◌}
use lib.ListN.{length}
use Rattle.agree.proofs.Side.{Side}
use Rattle.agree.proofs.all.records_agree.Given as goal

abbrev pub invariant-loop-at : goal.invariant-loop-at
invariant-loop-at l =
    (length l.calls ≡ length l.initial.calls) × (l.used ≤ length l.calls) × Side (length l.initial.t.txids) l.s l.version l.t l.calls l.used l.at

abbrev pub decreases-loop-at : goal.decreases-loop-at
decreases-loop-at l = length l.s - l.at
