-- The text that is put is that of the numbers asked for.
use mathlib.Core.Path.{ap}
use Rattle.text.specs.Put.{Put}
use Rattle.model.specs.Answers.{numbers_of}
use Rattle.step.proofs.put.put_plain.Goals as goal

pub returns : goal.returns
unfolding numbers_of
returns c =
    let p = c.put_answer-put.ensures in
    let e = c.plain_numbers-numbers.ensures in
    record { ran = ap (λ (x : Put). record { put = x; change = c.args.decided.change }) (rw e at p.result_value); left = rw e at p.buf_after }
