-- `digits_in` meets its contract: the logarithm counts the digits after the first.
use Rattle.text.proofs.Decimal.{length_by_log}
use Rattle.text_writer.proofs.digits_in.Goals as goal

pub returns-clause-value : goal.returns-clause-value
returns-clause-value c =
    let l = c.checked_ilog10 in
    rw c.unwrap_or.ensures (length_by_log c.args.n l.result l.ensures.none l.ensures.power_le l.ensures.next_power_gt)
