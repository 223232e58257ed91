-- `number_at` meets its contract: past the digits of n, the number's tail stands at i.
use mathlib.Core.Path.{◌≡◌}
use lib.ListN.{drop}
use Rattle.text.specs.Decimal.{number_tail, number_at}
use Rattle.text.proofs.read.number_at.Given as goal

abbrev pub invariant-loop-i : goal.invariant-loop-i
invariant-loop-i l = number_at l.s l.at ≡ number_tail (drop l.i l.s) l.n l.i
