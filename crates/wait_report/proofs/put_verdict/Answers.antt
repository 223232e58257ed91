-- Without room nothing is written; with room, the five lines are put (proofs/Placed.antt of crate text).
use Prim.Native.Nat.{◌+◌, ◌≤◌}
use native.Mathlib.Omega.{arith}
use lib.ListN.{length}
use Rattle.text.proofs.Splice.{no_room}
use Rattle.text.proofs.Placed.{placed_put}
use Rattle.wait_report.specs.Report.{verdict_lines}
use Rattle.wait_report.proofs.put_verdict.Goals as goal

pub returns-then-out-verdict_length : goal.returns-then-out-verdict_length
returns-then-out-verdict_length c =
    let said = no_room c.args.out.now 0 (verdict_lines c.args.told) (omega (arith, c.verdict_length.ensures)) in
    record { value = said.0; out_after = said.1 }

pub returns : goal.returns
returns c =
    let room : 0 + length (verdict_lines c.args.told) ≤ length c.args.out.now = omega (arith, c.verdict_length.ensures) in
    let said = placed_put room c.verdict_lines.ensures in
    record { value = said.0; out_after = said.1 }
