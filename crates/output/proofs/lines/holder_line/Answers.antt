-- Under proc-1 nothing is written, under proc-2 and proc-3 a line that has its room (crate's proofs/Wrote.antt).
use mathlib.Core.Logic.{inl, inr}
use Rattle.output.specs.Output.{holder_line}
use Rattle.output.proofs.Wrote.{wrote_none}
use Rattle.output.proofs.lines.holder_line.Goals as goal

pub returns-in-Proc1 : goal.returns-in-Proc1
unfolding holder_line
returns-in-Proc1 c = rw c.in-Proc1.is (wrote_none _ _)

pub returns-in-Proc2 : goal.returns-in-Proc2
unfolding holder_line
returns-in-Proc2 c = elim c.in-Proc2.is [ inl e ↦ rw e c.line.ensures | inr e ↦ rw e c.line.ensures ]
