-- Invariant: the lines of the ids so far stand from `at` on, and `past` is the place after them, at most 24 bytes for each (`Wrote`;
-- its laws, and that one line more is one id more, stand in the crate's proofs/Wrote.antt).
use Prim.Native.Nat.{◌*◌}
use lib.ListN.{length}
use mathlib.Core.List.{map}
use Rattle.output.specs.Output.{in_lines}
use Rattle.output.specs.Wrote.{Wrote}
use Rattle.output.proofs.lines.in_lines.Given as goal

abbrev pub invariant-loop-id : goal.invariant-loop-id
invariant-loop-id l = Wrote l.initial.buf l.at (in_lines (map (λ x. x.now) l.yielded)) l.buf l.past (24 * length l.yielded)
