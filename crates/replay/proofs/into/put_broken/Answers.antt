-- Where 33 bytes are there, both lines of refusal 9 have room (crate's proofs/Ends.antt).
use Rattle.kinds.specs.Refusals.{told}
use Rattle.replay.proofs.Ends.{broken_short, broken_written}
use Rattle.replay.proofs.into.put_broken.Goals as goal

pub returns-then-buf-lt33 : goal.returns-then-buf-lt33
returns-then-buf-lt33 c = broken_short c.args.line c.args.buf.now c.if-buf-lt33.true

pub returns : goal.returns
unfolding told
returns c =
    let a = c.args in
    let e = c.tell-told.ensures in
    let one = rw e at c.line-at.ensures in
    let two = rw e at c.line.ensures in
    broken_written a.line a.buf.now c.if-buf-lt33.false c.ranges.line.fits one.value one.buf_after two.value two.buf_after
