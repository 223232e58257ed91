-- The buffer has room for the longest number, so the line is put (output's proofs/Wrote.antt).
use native.Mathlib.Nat.{zero-add}
use native.Mathlib.Omega.{arith}
use mathlib.Core.Path.{◌∙◌}
use Rattle.text.specs.Keys.{records_key}
use Rattle.output.proofs.Wrote.{line_wrote}
use Rattle.replay.proofs.last.last_line.Goals as goal

pub returns : goal.returns
returns c =
    let a = c.args in
    let wrote = line_wrote a.buf.now 0 records_key a.count c.ranges.count.fits c.requires c.line.ensures.value c.line.ensures.buf_after in
    record { value = wrote.end ∙ zero-add _; buf_after = wrote.left }
