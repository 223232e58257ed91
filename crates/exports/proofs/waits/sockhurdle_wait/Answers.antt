-- The buffer is the report's; the number is read off its answer.
use mathlib.Core.Path.{ap, ◌∙◌}
use Rattle.exports.specs.Status.{reported}
use Rattle.exports.proofs.Answers.{reported_as}
use Rattle.exports.proofs.waits.sockhurdle_wait.Goals as goal

pub returns : goal.returns
returns c =
    let made = c.report.ensures in
    record { result_value = reported_as c.report.result c.unwrap_or.ensures ∙ ap reported made.result_value; out_after = made.out_after }
