-- What was read lies inside the buffer; the number is the replay's, or 2 (crate's proofs/Answers.antt).
use native.Mathlib.Omega.{arith}
use Rattle.exports.proofs.Answers.{input_inside, status_fits}
use Rattle.exports.proofs.sockhurdle_run.Goals as goal

pub slice_bounds-buf-end : goal.slice_bounds-buf-end
slice_bounds-buf-end c =
    let read = c.read_all in
    omega (arith, input_inside read.ensures c.in-Some.is, read.auto.buf)

pub returns : goal.returns
returns c = status_fits c.sockhurdle_replay_to.ensures
