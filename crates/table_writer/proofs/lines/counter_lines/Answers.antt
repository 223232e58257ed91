-- Three lines, each of which begins where the one before it ended (proofs/Walk.antt of crate table_measure).
use mathlib.Core.Path.{refl}
use Rattle.text.specs.Keys.{clock_key, sample_key, line_key}
use Rattle.text.proofs.Placed.{line_with_room}
use Rattle.table_measure.proofs.Walk.{counters_placed}
use Rattle.table_writer.proofs.lines.counter_lines.Goals as goal

pub returns : goal.returns
returns c =
    let k = c.args.counters in
    let first = c.line-a.ensures in
    let second = c.line-b.ensures in
    let third = c.line.ensures in
    counters_placed k c.requires
    (line_with_room _ _ clock_key k.clock refl first.buf_after first.value)
    (line_with_room _ _ sample_key k.sampled_clock refl second.buf_after second.value)
    (line_with_room _ _ line_key k.vacuum_line refl third.buf_after third.value)
