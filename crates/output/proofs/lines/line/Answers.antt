-- There is room for the longest number, so the line is put (crate's proofs/Wrote.antt).
use Rattle.output.proofs.Wrote.{line_wrote}
use Rattle.output.proofs.lines.line.Goals as goal

pub returns : goal.returns
returns c =
    let a = c.args in
    let put = c.line.ensures in
    line_wrote a.buf.now a.at a.key.now a.n c.ranges.n.fits c.requires put.value put.buf_after
