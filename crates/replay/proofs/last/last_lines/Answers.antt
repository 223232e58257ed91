-- Under proc-1 the first line is all, under proc-2 and proc-3 the second follows it (crate's proofs/Ending.antt).
use mathlib.Core.Path.{sym, ◌∙◌}
use lib.Seq.{length-take-le}
use Rattle.replay.proofs.Ending.{Ends, room_behind, ends_plain, ends_agreed}
use Rattle.replay.proofs.Next.{begins_with, put_inside}
use Rattle.replay.proofs.last.last_lines.Goals as goal
use Rattle.replay.proofs.last.last_lines.Goals.{Joined-version, in-Proc1, in-Proc2}

pub agree_line-end-requires : goal.agree_line-end-requires
agree_line-end-requires c =
    let o = c.last_line-first in
    record { at_in_bounds = room_behind _ c.ranges.count.fits c.requires.in_bounds o.auto.buf o.ensures.value; s_value = c.requires.s_value }

ended : (c : Joined-version) → Ends c.args.version c.args.count c.args.buf.now c.match-version.buf c.match-version.end
ended c =
    let o = c.last_line-first.ensures in
    elim c.match-version.branch [
      | in-Proc1 w ↦ rw (w.in-Proc1.is, w.buf-is, w.end-is) (ends_plain _ _ o.value o.buf_after)
      | in-Proc2 w ↦ rw (w.buf-is, w.end-is) (ends_agreed _ _ o.value o.buf_after w.agree_line-end.ensures _ w.in-Proc2.is)
    ]

pub slice_bounds-result-end : goal.slice_bounds-result-end
slice_bounds-result-end c =
    let e = ended c in
    sym (length-take-le _ _ (put_inside _ _ e.size e.text (c.match-version.auto.buf ∙ c.last_line-first.auto.buf)))

pub returns : goal.returns
returns c =
    let e = ended c in
    begins_with c.args.buf.now _ e.size e.text
