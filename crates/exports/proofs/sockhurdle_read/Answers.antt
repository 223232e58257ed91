-- The number is read off what the reading gave (crate's proofs/Answers.antt).
use Rattle.exports.proofs.Answers.{read_fits}
use Rattle.exports.proofs.sockhurdle_read.Goals as goal

pub returns : goal.returns
returns c = rw c.unwrap_or.ensures (read_fits _ _ c.read_all.ensures)
