-- `read_text` meets its contract. The invariant is the grammar's `Stands`: past n items, at the place `at`, the count goes on from
-- there, and its numbers are machine numbers.
use Prim.Native.Nat.{◌-◌}
use lib.ListN.{length}
use Rattle.grammar.proofs.Count.{Stands}
use Rattle.items.proofs.whole.read_text.Given as goal

abbrev pub invariant-loop-at : goal.invariant-loop-at
invariant-loop-at g l = Stands g.F.Format.grammar g.met.F.Format.laws l.s l.head l.at l.n

abbrev pub decreases-loop-at : goal.decreases-loop-at
decreases-loop-at g l = length l.s - l.at
