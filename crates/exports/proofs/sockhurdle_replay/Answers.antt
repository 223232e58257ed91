-- The buffer is the replay's; the number is read off its answer (crate's proofs/Answers.antt).
use Rattle.exports.proofs.Answers.{answered_as}
use Rattle.exports.proofs.sockhurdle_replay.Goals as goal

pub returns : goal.returns
returns c =
    let done = c.replay_into.ensures in
    record { result_value = answered_as done c.unwrap_or.ensures; out_after = done.text }
