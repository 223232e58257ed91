-- The header is the line of `trace=proc-` and a number (crate's proofs/Texts.antt).
use mathlib.Core.Path.{◌≡◌, refl, ap}
use native.Mathlib.Omega.{arith}
use lib.ListN.{length}
use Rattle.text.specs.Bytes.{bytes}
use Rattle.text.specs.Line.{line_text}
use Rattle.text.proofs.Placed.{line_with_room, placed_same}
use Rattle.trace.specs.Version.{header_of}
use Rattle.trace.specs.declared.Version.TheVariants.{Proc1, Proc2, Proc3}
use Rattle.trace_writer.proofs.Texts.{header-line}
use Rattle.trace_writer.proofs.lines.header.Goals.{in-Proc1, in-Proc2, in-Proc3}
use Rattle.trace_writer.proofs.lines.header.Goals as goal

pub returns : goal.returns
returns c =
    let number = c.match-version.number in
    let same : line_text (bytes "trace=proc-") number ≡ header_of c.args.version =
    elim c.match-version.branch [
      | in-Proc1 w ↦ rw (w.number-is, w.in-Proc1.is) (header-line Proc1)
      | in-Proc2 w ↦ rw (w.number-is, w.in-Proc2.is) (header-line Proc2)
      | in-Proc3 w ↦ rw (w.number-is, w.in-Proc3.is) (header-line Proc3)
    ] in
    let buf = c.args.buf.now in
    placed_same same
    (line_with_room buf 0 (bytes "trace=proc-") number refl c.line.ensures.buf_after c.line.ensures.value (omega (arith, ap length same)))
