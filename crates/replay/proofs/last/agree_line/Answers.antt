-- There is room for the longest number, so the line is put (output's proofs/Wrote.antt); and its number is 1.
use native.Mathlib.Omega.{arith}
use Rattle.output.proofs.Wrote.{line_wrote}
use Rattle.replay_text.specs.Replay.{agree_key}
use Rattle.replay.proofs.last.agree_line.Goals as goal

pub returns : goal.returns
returns c =
    let a = c.args in
    let put = rw c.agreed.ensures at c.line.ensures in
    line_wrote a.buf.now a.at agree_key 1 (omega arith) c.requires.at_in_bounds put.value put.buf_after
