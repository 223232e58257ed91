-- Four lines one after the other: each begins where the one before it ended (crate's proofs/Wrote.antt).
use Prim.Native.Nat.{◌≤◌}
use native.Mathlib.Omega.{arith}
use lib.ListN.{length}
use Rattle.output.specs.Output.{told_lines}
use Rattle.output.proofs.Wrote.{wrote_then, wrote_at-most}
use Rattle.output.proofs.lines.told_lines.Goals as goal

pub returns : goal.returns
unfolding told_lines
returns c =
    let start : c.args.at ≤ length c.args.buf.now = omega (arith, c.requires) in
    wrote_at-most (omega arith)
    (wrote_then start
    (wrote_then start (wrote_then start c.line-a.ensures c.line-b.ensures) c.line-c.ensures)
    c.line.ensures)
