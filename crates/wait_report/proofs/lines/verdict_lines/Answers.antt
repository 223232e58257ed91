-- Five lines, each of which begins where the one before it ended (crate's proofs/Five.antt).
use mathlib.Core.Path.{refl}
use Rattle.text.specs.Keys.{answer_key, slot_key, id_key, seen_key, at_key}
use Rattle.text.proofs.Placed.{line_with_room}
use Rattle.wait_report.proofs.Five.{verdict_placed}
use Rattle.wait_report.proofs.lines.verdict_lines.Goals as goal

pub returns : goal.returns
returns c =
    let t = c.args.told in
    let first = c.line-a.ensures in
    let second = c.line-b.ensures in
    let third = c.line-c.ensures in
    let fourth = c.line-d.ensures in
    let fifth = c.line.ensures in
    verdict_placed t c.requires
    (line_with_room _ _ answer_key t.number refl first.buf_after first.value)
    (line_with_room _ _ slot_key t.slot refl second.buf_after second.value)
    (line_with_room _ _ id_key t.id refl third.buf_after third.value)
    (line_with_room _ _ seen_key t.seen refl fourth.buf_after fourth.value)
    (line_with_room _ _ at_key t.at refl fifth.buf_after fifth.value)
