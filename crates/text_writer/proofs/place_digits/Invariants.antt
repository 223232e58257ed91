-- `place_digits` meets its contract.
use Rattle.text.proofs.Splice.{Backwards}
use Rattle.text_writer.proofs.place_digits.Given as goal

abbrev pub invariant-loop-i : goal.invariant-loop-i
invariant-loop-i l = Backwards l.initial.buf l.at l.n l.buf l.left l.i
