-- One line, put where it has room: what is put and where is `text_writer::put_line`'s, and what it means here stands in the crate's
-- proofs/Ends.antt.
use Rattle.replay.proofs.Ends.{end_fits}
use Rattle.replay.proofs.into.put_records.Goals as goal

pub returns : goal.returns
returns c =
    let a = c.args in
    let put = c.put_line.ensures in
    end_fits a.count a.filled a.buf.now put.value put.buf_after c.ok_or.ensures.value
