use mathlib.Core.Path.{◌∙◌, sym, ap}
use borrow.Author.Rules.{rules}
use Rattle.kinds.specs.declared.TheConstants.{SLOTS}
use Rattle.model.specs.Check.{table_passes}
use Rattle.host_calls.proofs.Decoded.{mapped, number, check_answered}
use Rattle.host_calls.proofs.sockhurdle_check_image.Goals as goal

pub returns : goal.returns
returns c =
    let a = c.args in
    c.answered.ensures ∙ ap number (mapped c.read_image.result c.map.result (table_passes SLOTS) (λ x y h. search rules) c.map.ensures.cases ∙ rw c.read_image.ensures) ∙ sym (check_answered _ a.image.now)
