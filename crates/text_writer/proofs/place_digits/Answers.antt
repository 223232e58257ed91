use native.Mathlib.Omega.{arith}
use Rattle.text.proofs.Splice.{back_none, back_more, back_last}
use Rattle.text_writer.proofs.place_digits.Goals as goal

pub loop-i-init : goal.loop-i-init
loop-i-init c = back_none _ _ _ _ c.requires.past_value

pub loop-i-preserved : goal.loop-i-preserved
loop-i-preserved c = back_more _ _ _ _ _ _ c.loop-i-test.true (omega arith) c.loop-i.invariant

pub returns : goal.returns
returns c = back_last _ _ _ _ _ _ c.loop-i-test.false c.loop-i.invariant
